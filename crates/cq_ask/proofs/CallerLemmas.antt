-- What a caller cites: lists whose elements are paired, one after another.
pub use Rattle.cq_ask.proofs.Chosen.{paired-length, paired-next}
