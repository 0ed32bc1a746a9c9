use Rattle.std.proofs.Common.{◌≡◌, ◌∙◌, ℕ, Bool, true, false, List, [], ◌∷◌, length, map, sym, subst}
use Rattle.std.specs.Prelude.{◌==◌, string_bytes}
use Rattle.std.proofs.lemmas.Result.{IfOk-weaker}
use Rattle.cq_board.specs.Pool.{PoolRecord}
use Rattle.cq_closure.specs.Closure.{is_set}
use Rattle.cq_render.specs.Graph.{AreKept}
use Rattle.cq_cli.specs.Views.{IsGraphOf, IsGraphWith}
use Rattle.cq_cli.proofs.drawing.draw.Goals as goal

-- where names are given, those are drawn that have a flag
with_flags : {N : Type 0} (read : N → List ℕ) (boxed : Bool) (names : List N) (pool : PoolRecord) (text : List ℕ) (flags drawn : List Bool) → (length names == 0) ≡ false → drawn ≡ flags
    → AreKept pool.pending (map read names) flags → IsGraphOf boxed (λ place. is_set drawn place) pool text → IsGraphWith boxed (map read names) pool text
with_flags read boxed [] pool text flags drawn some same kept is = absurd (let never : true ≡ false = some in cc)
with_flags read boxed (name ∷ names) pool text flags drawn some same kept is = (flags, kept, subst (λ (x : List Bool). IsGraphOf boxed (λ place. is_set x place) pool text) same is)

pub returns : goal.returns
returns g c =
    IfOk-weaker c.graph_in-2.result _ _
    (λ text is. with_flags (λ name. name.now) c.args.is_boxed c.args.names.now c.args.board.now (string_bytes text) c.in_ok-flags.flags.items c.deref.result.now (sym c.is_empty.ensures ∙ c.if-is_empty.false) c.deref.ensures.value c.in_ok-flags.ensures is)
    c.graph_in-2.ensures
