-- The list of how many postconditions each node has, while nodes come and go.
use Rattle.std.proofs.Common.{◌≡◌, ℕ, ◌<◌, Bool, if◌then◌else◌, eqb, List, [], ◌∷◌, length, set, get_or, sym, ◌∙◌, get_or-set_other, get_or-set_same}
use Rattle.std.proofs.lemmas.Bool.{eqb-false}
use Rattle.std.proofs.lemmas.List.Elements.{All-same, All-map}
use Rattle.cq_match.specs.Matcher.{with_flag, without, with_number}
use Rattle.cq_match.proofs.CallerLemmas.{All-without, All-added}
use Rattle.cq_tests_stores.specs.Guarded.{HavePosts}

abbrev Nodes : Type 0
Nodes = List (ℕ × ℕ × Bool)

pub kept-flag : (posts : List ℕ) (nodes after : Nodes) (n : ℕ) (able : Bool) → after ≡ with_flag n able nodes → HavePosts posts nodes → HavePosts posts after
kept-flag posts nodes after n able is all =
    let P : ℕ × ℕ × Bool → Type 0 = λ x. x.1 ≡ get_or posts x.0 0 in
    All-same P after (with_flag n able nodes) is (All-map P (λ (x : ℕ × ℕ × Bool). (x.0, x.1, if eqb x.0 n then able else x.2)) nodes all)

pub kept-without : (posts : List ℕ) (nodes after : Nodes) (n : ℕ) → after ≡ without n nodes → HavePosts posts nodes → HavePosts posts after
kept-without posts nodes after n is all =
    let P : ℕ × ℕ × Bool → Type 0 = λ x. x.1 ≡ get_or posts x.0 0 in
    All-same P after (without n nodes) is (All-without P n nodes all)

pub kept-added : (posts : List ℕ) (nodes after : Nodes) (n count : ℕ) (able : Bool) → n < length posts → with_number n after ≡ (n, count, able) ∷ [] → without n after ≡ nodes
    → HavePosts posts nodes → HavePosts (set posts n count) after
kept-added posts nodes after n count able low one others all =
    let P : ℕ × ℕ × Bool → Type 0 = λ x. x.1 ≡ get_or (set posts n count) x.0 0 in
    let Q : ℕ × ℕ × Bool → Type 0 = λ x. x.1 ≡ get_or posts x.0 0 in
    All-added P n Q
    (λ x away at. at ∙ sym (get_or-set_other posts n x.0 count 0 (eqb-false x.0 n away)))
    (n, count, able) nodes after one others (sym (get_or-set_same posts n count 0 low)) all
