-- What a caller cites: where the first line ends, what a line is read as, and lists that are empty or not.
pub use Rattle.cq_report.proofs.Cutting.{lines_of_ended, lines_of_open}
pub use Rattle.cq_report.proofs.Answering.{only_command, the_fault}
pub use Rattle.cq_report.proofs.Empty.{none_of, some_of}
