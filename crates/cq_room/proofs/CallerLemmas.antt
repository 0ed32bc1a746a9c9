-- What a caller cites of a room whose owner makes no checkpoints: its limit bounds all entries.
pub use Rattle.cq_room.proofs.Checkpoints.{front_unrenewed, unrenewed, unrenewed_back, unrenewed_base}
