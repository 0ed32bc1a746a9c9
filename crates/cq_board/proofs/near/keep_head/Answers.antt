use Rattle.std.proofs.Common.{◌≡◌, ℕ, Bool, true, false, List, [], ◌∷◌, ◌++◌, length, if◌then◌else◌, refl, sym, ap, subst, ◌∙◌, append-nil}
use Rattle.std.specs.Prelude.{◌&&◌, ◌==◌, not}
use Rattle.std.specs.Str.{bytes_eq}
use Rattle.std.proofs.lemmas.Bool.{eqb-true}
use Rattle.cq_atom.specs.Atom.{AtomRecord}
use Rattle.cq_board.specs.Near.{misses, differences, AreNearest}
use Rattle.cq_board.specs.Steps.Nearest.{HeadRecord, head_read, miss_at}
use Rattle.cq_board.specs.Steps.Supply.{unifies}
use Rattle.cq_board.proofs.Stored.{failed}
use Rattle.cq_board.proofs.near.keep_head.Goals as goal

middle : (a b c : Bool) → (a && (b && c)) ≡ true → b ≡ true
middle true true c h = refl
middle true false c h = h
middle false true c h = refl
middle false false c h = h

same-length : (wanted head : AtomRecord) → misses wanted head ≡ true → length head.terms ≡ length wanted.terms
same-length wanted head t = eqb-true (length head.terms) (length wanted.terms) (middle (bytes_eq head.relation wanted.relation) (length head.terms == length wanted.terms) (not (unifies head wanted)) t)

missed : (wanted : AtomRecord) (h : HeadRecord) (n : ℕ) → misses wanted h.2 ≡ true → n ≡ differences h.2.terms wanted.terms → (n, h.0, h.1) ∷ [] ≡ miss_at wanted h
missed wanted h n t is =
    ap (λ (m : ℕ). (m, h.0, h.1) ∷ []) is ∙ sym (ap (λ (b : Bool). if b then (differences h.2.terms wanted.terms, h.0, h.1) ∷ [] else []) t)

not_missed : (wanted : AtomRecord) (h : HeadRecord) → misses wanted h.2 ≡ false → miss_at wanted h ≡ []
not_missed wanted h f = ap (λ (b : Bool). if b then (differences h.2.terms wanted.terms, h.0, h.1) ∷ [] else []) f

pub differences-differences-requires : goal.differences-differences-requires
differences-differences-requires g c =
    ap length c.terms.ensures.value ∙ same-length c.args.wanted.now c.args.head.now.atom.now (sym c.misses.ensures ∙ c.if-misses.true) ∙ sym (ap length c.terms-then-misses.ensures.value)

pub returns-in_err-keep_miss : goal.returns-in_err-keep_miss
returns-in_err-keep_miss g c =
    λ all are. failed c.from_residual.result (AreNearest (all ++ miss_at c.args.wanted.now (head_read c.args.head.now)) c.keep_miss.new.kept.items) c.from_residual.ensures.0

pub returns-in_ok-keep_miss : goal.returns-in_ok-keep_miss
returns-in_ok-keep_miss g c =
    let kept = c.keep_miss.new.kept.items in
    let count : c.differences-differences.result ≡ differences c.args.head.now.atom.now.terms c.args.wanted.now.terms =
    c.differences-differences.ensures ∙ (λ i. differences (c.terms.ensures.value i) (c.terms-then-misses.ensures.value i)) in
    let one = missed c.args.wanted.now (head_read c.args.head.now) c.differences-differences.result (sym c.misses.ensures ∙ c.if-misses.true) count in
    λ all are. subst (λ (ms : List (ℕ × ℕ × ℕ)). AreNearest (all ++ ms) kept) one (c.in_ok-keep_miss.ensures all are)

pub returns-else-misses : goal.returns-else-misses
returns-else-misses g c =
    let kept = c.args.kept.now.items in
    let none = not_missed c.args.wanted.now (head_read c.args.head.now) (sym c.misses.ensures ∙ c.if-misses.false) in
    λ all are. subst (λ (ms : List (ℕ × ℕ × ℕ)). AreNearest ms kept) (sym (append-nil all) ∙ ap (λ (ms : List (ℕ × ℕ × ℕ)). all ++ ms) (sym none)) are
