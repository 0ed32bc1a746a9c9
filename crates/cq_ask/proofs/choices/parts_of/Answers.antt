use Rattle.std.proofs.Common.{◌≡◌, ◌∙◌, ◌∷◌, ◌++◌, [], ℕ, List, drop, sym, ap, append_assoc}
use Rattle.std.specs.Prelude.{codes, Some, None}
use Rattle.std.proofs.lemmas.List.{append_cancel_right, take-append-drop}
use Rattle.std.proofs.lemmas.Slice.Eq.{strip_prefix_is, strip_suffix_is}
use Rattle.std.proofs.lemmas.Bool.Decides.{Decides-eqb}
use Rattle.cq_ask.proofs.Chosen.{cut_at_bracket}
use Rattle.cq_ask.proofs.choices.parts_of.Goals as goal

pub returns-in_err-after-clause-only : goal.returns-in_err-after-clause-only
returns-in_err-after-clause-only c name inner good is =
    let parts = cut_at_bracket c.args.word.now name inner c.name_len.result good is c.name_len.ensures.len in
    let none = strip_prefix_is Decides-eqb c.split_at.result.1.now (40 ∷ []) None c.in_err-after.ensures.cases in
    absurd (none (inner ++ codes ")") (c.split_at.ensures.back ∙ parts.1))

pub returns-in_err-inner-clause-only : goal.returns-in_err-inner-clause-only
returns-in_err-inner-clause-only c name inner good is =
    let parts = cut_at_bracket c.args.word.now name inner c.name_len.result good is c.name_len.ensures.len in
    let opened = strip_prefix_is Decides-eqb c.split_at.result.1.now (40 ∷ []) (Some c.in_ok-after.after) c.in_ok-after.ensures.cases in
    let same : 40 ∷ c.in_ok-after.after.now ≡ 40 ∷ (inner ++ codes ")") = sym opened ∙ c.split_at.ensures.back ∙ parts.1 in
    let rest : c.in_ok-after.after.now ≡ inner ++ codes ")" = cc in
    absurd (strip_suffix_is Decides-eqb c.in_ok-after.after.now (41 ∷ []) None c.in_err-inner.ensures.cases inner rest)

pub returns-clause-found : goal.returns-clause-found
returns-clause-found c =
    let word = c.args.word.now in
    let name = c.split_at.result.0.now in
    let inner = c.in_ok-inner.inner.now in
    let opened = strip_prefix_is Decides-eqb c.split_at.result.1.now (40 ∷ []) (Some c.in_ok-after.after) c.in_ok-after.ensures.cases in
    let closed = strip_suffix_is Decides-eqb c.in_ok-after.after.now (41 ∷ []) (Some c.in_ok-inner.inner) c.in_ok-inner.ensures.cases in
    let whole : word ≡ name ++ c.split_at.result.1.now = sym (take-append-drop c.name_len.result word) ∙ ap (λ (front : List ℕ). front ++ drop c.name_len.result word) (sym c.split_at.ensures.front) ∙ ap (λ (back : List ℕ). name ++ back) (sym c.split_at.ensures.back) in
    whole ∙ ap (λ (back : List ℕ). name ++ back) (opened ∙ ap (λ (after : List ℕ). 40 ∷ after) closed)
    ∙ sym (append_assoc (name ++ 40 ∷ []) inner (41 ∷ []) ∙ append_assoc name (40 ∷ []) (inner ++ 41 ∷ []))

pub returns-clause-only : goal.returns-clause-only
returns-clause-only c name inner good is =
    let parts = cut_at_bracket c.args.word.now name inner c.name_len.result good is c.name_len.ensures.len in
    let opened = strip_prefix_is Decides-eqb c.split_at.result.1.now (40 ∷ []) (Some c.in_ok-after.after) c.in_ok-after.ensures.cases in
    let closed = strip_suffix_is Decides-eqb c.in_ok-after.after.now (41 ∷ []) (Some c.in_ok-inner.inner) c.in_ok-inner.ensures.cases in
    let same : 40 ∷ c.in_ok-after.after.now ≡ 40 ∷ (inner ++ codes ")") = sym opened ∙ c.split_at.ensures.back ∙ parts.1 in
    let rest : c.in_ok-after.after.now ≡ inner ++ codes ")" = cc in
    (c.split_at.ensures.front ∙ parts.0, append_cancel_right c.in_ok-inner.inner.now inner (41 ∷ []) (sym closed ∙ rest))
