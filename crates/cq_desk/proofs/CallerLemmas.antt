-- What a caller cites of edits that were accepted one after another.
pub use Rattle.cq_desk.proofs.Accepting.{accepted_more}
