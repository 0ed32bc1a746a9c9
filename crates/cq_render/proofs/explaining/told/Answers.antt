use Rattle.std.proofs.Common.{◌≡◌, [], ℕ, List, Bool, true, false, Some, None, IfOk, string_bytes, if◌then◌else◌, subst, arith}
use Rattle.std.specs.Prelude.{Result, Ok, Err}
use Rattle.std.proofs.lemmas.Grind.{common_steps}
use Rattle.cq_atom.specs.declared.fault.Bad.{Bad}
use Rattle.cq_atom.specs.Answer.{Answers}
use Rattle.cq_atom.specs.Text.{is_name}
use Rattle.cq_board.specs.Pool.{PoolRecord}
use Rattle.cq_board.specs.Named.{matched_named}
use Rattle.cq_render.specs.declared.extent.Extent.{Extent}
use Rattle.cq_render.specs.Explain.{IsToldBy}
use Rattle.cq_render.proofs.explaining.told.Goals as goal

of_word : {R E : Type 0} (r : Result R E) (read : R → List ℕ) (extent : Extent) (pool : PoolRecord) (word name : List ℕ) (named : Bool)
    → Answers Bad.NoMemory (if named then None else Some Bad.BadName) word (Ok name)
    → IfOk r (λ text. IsToldBy (matched_named name pool) extent pool name (read text)) → IfOk r (λ text. IsToldBy (if named then matched_named word pool else None) extent pool word (read text))
of_word r read extent pool word name true is told = subst (λ (w : List ℕ). IfOk r (λ text. IsToldBy (matched_named w pool) extent pool w (read text))) is told
of_word r read extent pool word name false is told = cc

of_other : (extent : Extent) (pool : PoolRecord) (word text : List ℕ) (named : Bool) (e : Bad) → Answers Bad.NoMemory (if named then None else Some Bad.BadName) word (Err e) → (e ≡ Bad.NoMemory → ⊥) → text ≡ []
    → IsToldBy (if named then matched_named word pool else None) extent pool word text
of_other extent pool word text true e is other none = absurd (other is)
of_other extent pool word text false e is other none = none

pub told_of_name-requires : goal.told_of_name-requires
told_of_name-requires g c = c.requires

pub returns-in-Ok : goal.returns-in-Ok
returns-in-Ok g c =
    of_word c.told_of_name.result string_bytes c.args.extent c.args.fallen.now.listing.now.board.now c.args.word.now c.in-Ok.name (is_name c.args.word.now) c.in-Ok.ensures c.told_of_name.ensures

pub returns-in-Err : goal.returns-in-Err
returns-in-Err g c =
    of_other c.args.extent c.args.fallen.now.listing.now.board.now c.args.word.now (string_bytes c.new-in-Err.result) (is_name c.args.word.now) c.in-Err.field-0 c.in-Err.ensures (λ is. grind (arith, common_steps)) c.new-in-Err.ensures.bytes
