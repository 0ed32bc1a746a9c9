-- The edges that are found are the links that touch the new place.
use Rattle.std.proofs.Common.{◌≡◌, ◌≢◌, ◌↔◌, ◌⊎◌, inl, inr, ℕ, ◌+◌, ◌*◌, ◌/◌, ◌%◌, ◌<◌, cond, nat_eq, List, [], Contains, Some, None, refl, sym, ap, subst, ◌∙◌, arith}
use Rattle.std.specs.List.{slice_get, AllPairs}
use Rattle.std.specs.Option.{option_map_or}
use Rattle.std.specs.FinMap.{get, insert}
use Rattle.std.proofs.lemmas.Bool.Decides.{Decides-eqb}
use Rattle.std.proofs.lemmas.Option.{slice_get_within}
use Rattle.cq_atom.specs.declared.limits.TheConstants.{MAX_ATOMS}
use Rattle.cq_atom.specs.Atom.{AtomRecord}
use Rattle.cq_atom.specs.Unify.{Unify}
use Rattle.cq_atom.specs.declared.edge.Edge.{Edge}
use Rattle.cq_index.specs.Index.{AtomMap}
use Rattle.cq_links.specs.declared.asking.Side.TheVariants.{Heads, Posts}
use Rattle.cq_links.specs.Links.{Ends, LinkMap, heads_at, posts_at, IsLink, Touches}
use Rattle.cq_links.specs.Steps.Kept.{IsKept}
use Rattle.cq_links.specs.Steps.Asking.{edge_of, Adds, IsAnswerTo, AnswersBoth}
use Rattle.cq_links.proofs.Tests.{by_bool, same_number, other_number, inserted}
use Rattle.cq_links.proofs.Keys.{key_is, rest_low, place_of_key, number_of_key}
use Rattle.cq_links.proofs.Once.{once_apart}
use Rattle.cq_links.proofs.Adding.{adds_both}
use Rattle.cq_links.proofs.Kept.{few_heads_at, few_posts_at}

-- it does not matter which of two atoms is named first
turned : (a b : AtomRecord) → Unify a b → Unify b a
turned a b u = record { left = u.right; right = u.left; left_values = u.right_values; right_values = u.left_values; row = u.row; from_left = u.from_right; from_right = u.from_left }

same_supply : (e : Edge) {place : ℕ} (key : ℕ) → e.waiter ≡ place → key / MAX_ATOMS ≡ e.provider → key % MAX_ATOMS ≡ e.head → e ≡ edge_of Posts place e.post key
same_supply e key here from number = λ i. record { provider = sym from i; head = sym number i; waiter = here i; post = e.post }

same_edge : (e : Edge) {place : ℕ} (key : ℕ) → e.provider ≡ place → key / MAX_ATOMS ≡ e.waiter → key % MAX_ATOMS ≡ e.post → e ≡ edge_of Heads place e.head key
same_edge e key here to number = λ i. record { provider = here i; head = e.head; waiter = sym to i; post = sym number i }

module _ (m : LinkMap) (place : ℕ) (new : Ends) (heads posts new_heads new_posts : AtomMap) (none : get m place ≡ None) (old : IsKept m heads posts) (now : IsKept (insert m place new) new_heads new_posts) where
  own : (f : Ends → List AtomRecord) → option_map_or f (get (insert m place new) place) [] ≡ f new
  own f = let here : cond (nat_eq place place) (Some new) (get m place) ≡ Some new = rw ((Decides-eqb place place).1 refl) refl in ap (λ o. option_map_or f o []) (inserted m place new place ∙ here)

  other : (f : Ends → List AtomRecord) (p : ℕ) → p ≢ place → option_map_or f (get (insert m place new) p) [] ≡ option_map_or f (get m p) []
  other f p ne = ap (λ o. option_map_or f o []) (inserted m place new p ∙ by_bool (nat_eq p place) (cond (nat_eq p place) (Some new) (get m p) ≡ get m p) (λ t. absurd (ne (same_number p place t))) (λ g. rw g refl))

  -- an atom that was there before is not the new query's
  elsewhere : (k : ℕ) (a : AtomRecord) → get posts k ≡ Some a → k / MAX_ATOMS ≢ place
  elsewhere k a there same =
      let gone : get posts k ≡ None = ap (get posts) (sym (key_is k)) ∙ old.posts_there (k / MAX_ATOMS) (k % MAX_ATOMS) (rest_low k)
      ∙ ap (λ q. slice_get (posts_at m q) (k % MAX_ATOMS)) same ∙ ap (λ o. slice_get (option_map_or (λ e. e.posts) o []) (k % MAX_ATOMS)) none in
      let no : Some a ≡ None = sym there ∙ gone in cc

  from_posts : (e : Edge) → IsAnswerTo (edge_of Posts place) new_heads new.posts e → IsLink (insert m place new) e × Touches place e
  from_posts e (number, given, at, (key, is, (offered, there, unify))) =
      subst (λ x. IsLink (insert m place new) x × Touches place x) (sym is) (
        record {
          offered = offered;
          wanted = given;
          head = sym (now.heads_there (key / MAX_ATOMS) (key % MAX_ATOMS) (rest_low key)) ∙ ap (get new_heads) (key_is key) ∙ there;
          post = ap (λ xs. slice_get xs number) (own (λ e. e.posts)) ∙ at;
          unify = turned given offered unify;
        },
        inr refl,
      )

  from_heads : (e : Edge) → IsAnswerTo (edge_of Heads place) posts new.heads e → IsLink (insert m place new) e × Touches place e
  from_heads e (number, given, at, (key, is, (wanted, there, unify))) =
      subst (λ x. IsLink (insert m place new) x × Touches place x) (sym is) (
        record {
          offered = given;
          wanted = wanted;
          head = ap (λ xs. slice_get xs number) (own (λ e. e.heads)) ∙ at;
          post = ap (λ xs. slice_get xs (key % MAX_ATOMS)) (other (λ e. e.posts) (key / MAX_ATOMS) (elsewhere key wanted there)) ∙ sym (old.posts_there (key / MAX_ATOMS) (key % MAX_ATOMS) (rest_low key)) ∙ ap (get posts) (key_is key) ∙ there;
          unify = unify;
        },
        inl refl,
      )

  never_both : (e : Edge) → IsAnswerTo (edge_of Posts place) new_heads new.posts e → IsAnswerTo (edge_of Heads place) posts new.heads e → ⊥
  never_both e (number, given, at, (key, is, a)) (number', given', at', (key', is', (wanted, there, unify))) =
      elsewhere key' wanted there (ap (λ (x : Edge). x.waiter) (sym is' ∙ is))

  is_found : (e : Edge) → IsLink (insert m place new) e × Touches place e → IsAnswerTo (edge_of Posts place) new_heads new.posts e ⊎ IsAnswerTo (edge_of Heads place) posts new.heads e
  is_found e (link, touches) = by_bool (nat_eq e.waiter place) (IsAnswerTo (edge_of Posts place) new_heads new.posts e ⊎ IsAnswerTo (edge_of Heads place) posts new.heads e)
      (λ t.
      let here : e.waiter ≡ place = same_number e.waiter place t in
      let low : e.head < MAX_ATOMS = (let within = slice_get_within (heads_at (insert m place new) e.provider) e.head link.offered link.head in let few = few_heads_at (insert m place new) new_heads new_posts now e.provider in omega arith) in
      let key = e.provider * MAX_ATOMS + e.head in
      inl (
        e.post,
        link.wanted,
        ap (λ xs. slice_get xs e.post) (sym (own (λ x. x.posts))) ∙ ap (λ p. slice_get (posts_at (insert m place new) p) e.post) (sym here) ∙ link.post,
        (
          key,
          same_supply e key here (place_of_key e.provider e.head low) (number_of_key e.provider e.head low),
          (link.offered, now.heads_there e.provider e.head low ∙ link.head, turned link.offered link.wanted link.unify),
        ),
      ))
      (λ f.
      let ne : e.waiter ≢ place = other_number e.waiter place f in
      let here : e.provider ≡ place = elim touches [ inl h ↦ h | inr h ↦ absurd (ne h) ] in
      let low : e.post < MAX_ATOMS = (let within = slice_get_within (posts_at (insert m place new) e.waiter) e.post link.wanted link.post in let few = few_posts_at (insert m place new) new_heads new_posts now e.waiter in omega arith) in
      let key = e.waiter * MAX_ATOMS + e.post in
      inr (
        e.head,
        link.offered,
        ap (λ xs. slice_get xs e.head) (sym (own (λ x. x.heads))) ∙ ap (λ p. slice_get (heads_at (insert m place new) p) e.head) (sym here) ∙ link.head,
        (
          key,
          same_edge e key here (place_of_key e.waiter e.post low) (number_of_key e.waiter e.post low),
          (link.wanted, old.posts_there e.waiter e.post low ∙ ap (λ xs. slice_get xs e.post) (sym (other (λ x. x.posts) e.waiter ne)) ∙ link.post, link.unify),
        ),
      ))

  found : (edges : List Edge) → AnswersBoth place new.posts new.heads new_heads posts edges → Adds (λ e. IsLink (insert m place new) e × Touches place e) [] edges
  found edges both = adds_both (IsAnswerTo (edge_of Posts place) new_heads new.posts) (IsAnswerTo (edge_of Heads place) posts new.heads) (λ e. IsLink (insert m place new) e × Touches place e) [] both.halfway edges
      both.supplied both.supplying never_both from_posts from_heads is_found

  pub exact : (edges : List Edge) → AnswersBoth place new.posts new.heads new_heads posts edges → (e : Edge) → Contains edges e ↔ (IsLink (insert m place new) e × Touches place e)
  exact edges both e = let all = found edges both in subst (λ es. Contains es e ↔ (IsLink (insert m place new) e × Touches place e)) (sym all.behind) (all.exact e)

  pub once : (edges : List Edge) → AnswersBoth place new.posts new.heads new_heads posts edges → AllPairs (λ a b. a ≢ b) edges
  once edges both = let all = found edges both in subst (λ es. AllPairs (λ a b. a ≢ b) es) (sym all.behind) (once_apart all.added all.once)
