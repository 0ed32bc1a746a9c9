-- What a caller cites: texts and tokens that are put piece by piece.
pub use Rattle.cq_render.proofs.Pages.{joined, joined_more, put_on, put_both, put_then, put_end}
pub use Rattle.cq_render.proofs.Pieces.{pieces_at, got_at, mapped_at, nothing_left, numbers_at, read_at}
pub use Rattle.cq_render.proofs.Explained.{pieces_step}
pub use Rattle.cq_render.proofs.Arrays.{listed, listed_at, listed_of, put_array}
pub use Rattle.cq_render.proofs.Telling.{put_object, put_more, listed_none, listed_step, listed_closed}
