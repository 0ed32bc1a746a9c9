-- The names that both walks cite, passed on from one place. Declares nothing.
pub use Rattle.std.proofs.Common.{◌≡◌, ℕ, ◌+◌, ◌*◌, ◌<◌, ◌≤◌, ◌^◌, Bool, true, false, List, [], ◌∷◌, ◌++◌, Ok, Err, refl, ap, sym, subst, w64, Bor}
pub use Rattle.std.proofs.raw_atomic.Walks.{proved}
pub use Rattle.std.proofs.VecSteps.Shapes.{after, front, arm_body}
pub use Rattle.std.proofs.alloc.Calls.{Al, α, token, seen, Answer, answer_val, Answer-typed, Answer-Ok, Answer-err, Takes as Allocates, at_takes as at_allocates, Answered, Takes-goes as Allocates-goes, Takes-gives as Allocates-gives, Gives, at_gives, Gives-goes, Gives-Gives, answers}
pub use Rattle.std.specs.Allocator.{block_if_ok}
pub use seplogic.Ra.Ura.{Ura}
pub use mir.Syntax.{Args, Body, Fn, a_type, dnil, dcons}
pub use mir.Val.{Val, vunit, vbool, vint, vptr, has_ty, WT}
pub use lib.Dec.{T}
pub use denote.Laws.{Is, shows}
pub use mir.MapTy.{inst_fn}
pub use base.Logic.{SProp, ent, sep, ex, guard, never, never_e, emp, id⊢, fst∗}
pub use base.Fml.{Fml, Lft, Share, ftrue, fsep, flft}
pub use prog.Memory.{Memory, size, align, capped, up}
pub use prog.Routine.{Routine}
pub use prog.Wp.{Env, Wp, WpFn, after_seq, at_return}
pub use types.Logic.{Logic, sem}
pub use contract.BorrowLft.{◌⊑◌, ⊑_trans}
pub use contract.Monad.{Fun, fact, fact_i}
pub use contract.Running.{tables}
pub use types.Kit.{‵, raw, ◌⊛◌, some, later, given, prop, at_ret, any_q, Post as After, Sq, ◌$◌, ◌∵◌, !, qed, by, move, keep, use0, use1, use2, split, split3, join, pick, learn, fsplit, fjoin, feq_i, feq_l, flt_i, flt_l, check, show, regoal, suffices, group, await, updating, now as at_once, done}
pub use types.Part.{agg, whole}
pub use types.Match.{vrt, in_variant}
pub use types.Run.{enter, of_opd, lit, unit_lit, size_word, addr, stop, fld, no_more, and_then, first, branches, skips, switches_on, exec, returns, returns_within}
pub use types.ByLocal.{alloc_all, pass_all, free_all, look_at, get, get_in, get_tag, through, sets, sets_last, lands_as, env}
pub use denote.Builtin.{RawPtr, RefOf, bool, unit, usize}
pub use denote.Exit.{yes}
pub use denote.Memory.{hidden_shr}
pub use denote.Opens.{unhide, shr_dup}
pub use denote.Param.{bounded, layout, param}
pub use denote.Plain.{uint_vals, uint_Tells}
pub use denote.RattleType.{RattleType, owns}
pub use denote.RawPtr.{Ptr, block_ptr, null_ptr, in_a_block, room_for, rawptr_vals, rawptr_Tells}
pub use denote.Ref.{shr_vals}
pub use denote.Signature.{Slot, plain, types_at}
pub use denote.Steps.{heard, nothing, only, peeks}
pub use denote.Triple.Call.{calls_at}
pub use denote.Triple.Clauses.{Ended, lasts}
pub use denote.Triple.Spec.{triple_of}
pub use denote.Triple.Statement.{Contract}
pub use denote.Triple.Table.{framed}
pub use denote.Triple.Walked.{Stays, walk_of, stay_dropped, Goes-dropped, ends_at}
pub use Rattle.core.proofs.alloc.Resizes.{Grows, Grows-Sized, Shrinks, Shrinks-Sized, Sized, wider, times_capped, Resizes, at_resizes, left_by, Flagged, Resizes-goes, Resizes-gives, flagged, result_of, result_own, asked, heard_all}
pub use Rattle.core.specs.Allocator.{block_with_items, resized_if_ok}
pub use prog.Capped.{capped_fits}
