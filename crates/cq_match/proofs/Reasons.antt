-- Why nodes fall: unmet postconditions, first reasons, and falling lists beside closed sets.
use Rattle.std.proofs.Common.{◌≡◌, ℕ, zero, suc, ◌<◌, ◌≤◌, inl, inr, Bool, true, false, not, ◌&&◌, ◌||◌, ltb, List, [], ◌∷◌, ◌++◌, length, map, refl, sym, ap, ◌∙◌, subst, arith, nat_eq}
use borrow.Author.Tests.{ltb-true, ltb-false}
use Rattle.std.specs.List.{All, Contains}
use Rattle.std.specs.Set.{is_member}
use Rattle.std.proofs.lemmas.List.Elements.{All-head, All-tail, Contains-push_cases}
use Rattle.cq_atom.specs.declared.edge.Edge.{Edge}
use Rattle.cq_match.specs.declared.falls.Fall.{Fall}
use Rattle.cq_match.specs.declared.falls.Reason.{Reason}
use Rattle.cq_match.specs.declared.falls.Reason.TheVariants.{NotAble, Unmet}
use Rattle.cq_match.specs.Graph.{leads_to}
use Rattle.cq_match.specs.Matched.{numbers, is_supplied, has_each_post, is_closed, is_matched}
use Rattle.cq_match.specs.Falling.{is_unmet, HasReason, IsFirstReason, fallen, IsFallingAfter, IsFalling, IsUnmatched}
use Rattle.cq_match.proofs.Bridge.{here-Contains, later-Contains, none-Contains, listed-number}
use Rattle.cq_match.proofs.Ranks.{Nodes}
use Rattle.cq_match.proofs.Tests.{by_bool, and_left, and_right, both}
use Rattle.cq_match.proofs.Union.{member-contained, contained-member, member-fits, has-post, found-part}

-- ---- lists

module _ {X : Type 0} (f : X → ℕ) where
  pub mapped-has : (xs : List X) (x : X) → Contains xs x → Contains (map f xs) (f x)
  mapped-has [] x h = absurd (none-Contains x h)
  mapped-has (y ∷ xs) x (zero, low, at) = subst (λ z. Contains (f y ∷ map f xs) (f z)) at (here-Contains (f y) (map f xs))
  mapped-has (y ∷ xs) x (suc k, low, at) = later-Contains (f y) (f x) (map f xs) (mapped-has xs x (k, (let l : suc k < suc (length xs) = low in omega arith), at))

  pub mapped-from : (xs : List X) (n : ℕ) → Contains (map f xs) n → (x : X) × Contains xs x × (f x ≡ n)
  mapped-from [] n h = absurd (none-Contains n h)
  mapped-from (x ∷ xs) n (zero, low, at) = (x, here-Contains x xs, at)
  mapped-from (x ∷ xs) n (suc k, low, at) =
      let found = mapped-from xs n (k, (let l : suc k < suc (length (map f xs)) = low in omega arith), at) in
      (found.0, later-Contains x found.0 xs found.1, found.2)

-- ---- reasons

pub first-has : (unmet : ℕ → Bool) (node : ℕ × ℕ × Bool) (r : Reason) → IsFirstReason unmet node r → HasReason unmet node r
first-has unmet node NotAble h = h
first-has unmet node (Unmet k) (able, low, e, lower) = (low, e)

pub first-once : (unmet : ℕ → Bool) (node : ℕ × ℕ × Bool) (r s : Reason) → IsFirstReason unmet node r → IsFirstReason unmet node s → r ≡ s
first-once unmet node NotAble NotAble h g = refl
first-once unmet node NotAble (Unmet k) h (able, low, e, lower) = absurd (let never : false ≡ true = sym h ∙ able in cc)
first-once unmet node (Unmet k) NotAble (able, low, e, lower) g = absurd (let never : false ≡ true = sym g ∙ able in cc)
first-once unmet node (Unmet k) (Unmet j) (able, low, e, lower) (able', low', e', lower') =
    by_bool (ltb j k) (Unmet k ≡ Unmet j)
    (λ t. absurd (let never : false ≡ true = sym (lower j (ltb-true j k t)) ∙ e' in cc))
    (λ f. by_bool (ltb k j) (Unmet k ≡ Unmet j)
    (λ t. absurd (let never : false ≡ true = sym (lower' k (ltb-true k j t)) ∙ e in cc))
    (λ g. let a = ltb-false j k f in let b = ltb-false k j g in ap Unmet (let same : k ≡ j = omega arith in same)))

pub first-same : (unmet other : ℕ → Bool) (node : ℕ × ℕ × Bool) (r : Reason) → ((k : ℕ) → k < node.1 → unmet k ≡ other k) → IsFirstReason unmet node r → IsFirstReason other node r
first-same unmet other node NotAble same h = h
first-same unmet other node (Unmet k) same (able, low, e, lower) = (able, low, sym (same k low) ∙ e, λ j below. sym (same j (omega arith)) ∙ lower j below)

pub has-more : (unmet other : ℕ → Bool) (node : ℕ × ℕ × Bool) (r : Reason) → ((k : ℕ) → unmet k ≡ true → other k ≡ true) → HasReason unmet node r → HasReason other node r
has-more unmet other node NotAble more h = h
has-more unmet other node (Unmet k) more (low, e) = (low, more k e)

-- the lowest number up to one that passes
lowest : (test : ℕ → Bool) (n : ℕ) → test n ≡ true → (m : ℕ) × (m ≤ n) × (test m ≡ true) × ((l : ℕ) → l < m → test l ≡ false)
lowest test zero e = (0, omega arith, e, λ l low. absurd (let none : l < 0 = low in omega arith))
lowest test (suc n) e =
    by_bool (test 0) ((m : ℕ) × (m ≤ suc n) × (test m ≡ true) × ((l : ℕ) → l < m → test l ≡ false))
    (λ t. (0, omega arith, t, λ l low. absurd (let none : l < 0 = low in omega arith)))
    (λ f.
    let later = lowest (λ k. test (suc k)) n e in
    (suc later.0, (let upto = later.1 in omega arith), later.2, below test later.0 f later.3))
  where
    below : (test : ℕ → Bool) (m : ℕ) → test 0 ≡ false → ((l : ℕ) → l < m → test (suc l) ≡ false) → (l : ℕ) → l < suc m → test l ≡ false
    below test m f h zero low = f
    below test m f h (suc l) low = h l (let before : suc l < suc m = low in omega arith)

-- a node that is not able, or has an unmet postcondition, has a first reason
pub first-unable : (unmet : ℕ → Bool) (node : ℕ × ℕ × Bool) → node.2 ≡ false → (r : Reason) × IsFirstReason unmet node r
first-unable unmet node down = (NotAble, down)

pub first-unmet : (unmet : ℕ → Bool) (node : ℕ × ℕ × Bool) (k : ℕ) → node.2 ≡ true → k < node.1 → unmet k ≡ true → (r : Reason) × IsFirstReason unmet node r
first-unmet unmet node k able low e =
    let found = lowest unmet k e in
    (Unmet found.0, (able, (let upto = found.1 in omega arith), found.2, found.3))

-- ---- postconditions whose edges come from a list

pub unmet-more : (edges : List Edge) (gone more : List ℕ) (w k : ℕ) → ((n : ℕ) → is_member nat_eq gone n ≡ true → is_member nat_eq more n ≡ true) → is_unmet edges gone w k ≡ true → is_unmet edges more w k ≡ true
unmet-more [] gone more w k within e = refl
unmet-more (edge ∷ edges) gone more w k within e =
    by_bool (leads_to w k edge) (is_unmet (edge ∷ edges) more w k ≡ true)
    (λ t.
    let all : (is_member nat_eq gone edge.provider && is_unmet edges gone w k) ≡ true = rw t at e in
    rw t (both (is_member nat_eq more edge.provider) (is_unmet edges more w k) (within edge.provider (and_left (is_member nat_eq gone edge.provider) (is_unmet edges gone w k) all))
    (unmet-more edges gone more w k within (and_right (is_member nat_eq gone edge.provider) (is_unmet edges gone w k) all))))
    (λ f.
    let all : is_unmet edges gone w k ≡ true = rw f at e in
    rw f (unmet-more edges gone more w k within all))

-- what all has to come from some nodes is not supplied from others
unsupplied : (edges : List Edge) (gone set : List ℕ) (w k : ℕ) → ((n : ℕ) → is_member nat_eq gone n ≡ true → is_member nat_eq set n ≡ false) → is_unmet edges gone w k ≡ true → is_supplied edges set w k ≡ false
unsupplied [] gone set w k apart e = refl
unsupplied (edge ∷ edges) gone set w k apart e =
    by_bool (leads_to w k edge) (is_supplied (edge ∷ edges) set w k ≡ false)
    (λ t.
    let all : (is_member nat_eq gone edge.provider && is_unmet edges gone w k) ≡ true = rw t at e in
    let out = apart edge.provider (and_left (is_member nat_eq gone edge.provider) (is_unmet edges gone w k) all) in
    rw (t, out) (unsupplied edges gone set w k apart (and_right (is_member nat_eq gone edge.provider) (is_unmet edges gone w k) all)))
    (λ f.
    let all : is_unmet edges gone w k ≡ true = rw f at e in
    rw f (unsupplied edges gone set w k apart all))

-- a postcondition is unmet exactly where no node beside the list supplies it
pub unmet-is : (known : ℕ → Type 0) (edges : List Edge) (gone set : List ℕ) (w k : ℕ) → All (λ edge. known edge.provider) edges
    → ((n : ℕ) → known n → is_member nat_eq set n ≡ not (is_member nat_eq gone n)) → is_unmet edges gone w k ≡ not (is_supplied edges set w k)
unmet-is known [] gone set w k ends same = refl
unmet-is known (edge ∷ edges) gone set w k ends same =
    let rest = unmet-is known edges gone set w k (All-tail (λ x. known x.provider) edge edges ends) same in
    let here = same edge.provider (All-head (λ x. known x.provider) edge edges ends) in
    by_bool (leads_to w k edge) (is_unmet (edge ∷ edges) gone w k ≡ not (is_supplied (edge ∷ edges) set w k))
    (λ t. rw (t, here, rest) (either (is_member nat_eq gone edge.provider) (is_supplied edges set w k)))
    (λ f. rw f rest)
  where
    either : (a b : Bool) → (a && not b) ≡ not (not a || b)
    either true b = refl
    either false b = refl

-- ---- falling lists and closed sets

module _ (nodes : Nodes) (edges : List Edge) (set : List ℕ) (closed : is_closed nodes edges set ≡ true) where
  -- a node with a reason is in no closed set that keeps apart from the list
  reason-out : (gone : List ℕ) (node : ℕ × ℕ × Bool) (r : Reason) → ((n : ℕ) → is_member nat_eq gone n ≡ true → is_member nat_eq set n ≡ false) → Contains nodes node → HasReason (is_unmet edges gone node.0) node r → is_member nat_eq set node.0 ≡ false
  reason-out gone node r apart listed has =
      by_bool (is_member nat_eq set node.0) (is_member nat_eq set node.0 ≡ false)
      (λ t.
      let fits = member-fits nodes edges set node closed listed t in
      absurd (against r has (and_left node.2 (has_each_post edges set node) fits) (and_right node.2 (has_each_post edges set node) fits)))
      (λ f. f)
    where
      against : (r : Reason) → HasReason (is_unmet edges gone node.0) node r → node.2 ≡ true → has_each_post edges set node ≡ true → ⊥
      against NotAble down able each = absurd (let never : false ≡ true = sym down ∙ able in cc)
      against (Unmet k) (low, e) able each =
          absurd (let never : false ≡ true = sym (unsupplied edges gone set node.0 k apart e) ∙ has-post edges set node k each low in cc)

  pub falling-out : (gone : List ℕ) (falls : List Fall) → ((n : ℕ) → is_member nat_eq gone n ≡ true → is_member nat_eq set n ≡ false) → IsFallingAfter nodes edges gone falls → (n : ℕ) → Contains (fallen falls) n → is_member nat_eq set n ≡ false
  falling-out gone [] apart h n has = absurd (none-Contains n has)
  falling-out gone (fall ∷ falls) apart (some, rest) n has =
      let node = some.1 in
      let out : is_member nat_eq set fall.node ≡ false = ap (is_member nat_eq set) (sym some.4.0) ∙ reason-out gone node fall.reason apart (some.0, some.2, some.3) some.4.1 in
      this-or-later n has out
      (falling-out (gone ++ fall.node ∷ []) falls (λ m t. elim (Contains-push_cases gone fall.node m (member-contained (gone ++ fall.node ∷ []) m t)) [
        | inl c ↦ apart m (contained-member gone m c)
        | inr e ↦ ap (is_member nat_eq set) (sym e) ∙ out
      ]) rest)
    where
      this-or-later : (n : ℕ) → Contains (fall.node ∷ fallen falls) n → is_member nat_eq set fall.node ≡ false → ((m : ℕ) → Contains (fallen falls) m → is_member nat_eq set m ≡ false) → is_member nat_eq set n ≡ false
      this-or-later n (zero, low, at) out later = ap (is_member nat_eq set) (sym at) ∙ out
      this-or-later n (suc k, low, at) out later = later n (k, (let l : suc k < suc (length (fallen falls)) = low in omega arith), at)

-- What a falling list has is not matched.
pub falling-unmatched : (nodes : Nodes) (edges : List Edge) (falls : List Fall) → IsFalling nodes edges falls → (n : ℕ) → Contains (fallen falls) n → IsUnmatched nodes edges n
unfolding is_matched
falling-unmatched nodes edges falls h n has = (known [] falls h n has, down)
  where
    known : (gone : List ℕ) (falls : List Fall) → IsFallingAfter nodes edges gone falls → (n : ℕ) → Contains (fallen falls) n → Contains (numbers nodes) n
    known gone [] h n has = absurd (none-Contains n has)
    known gone (fall ∷ falls) (some, rest) n (zero, low, at) = subst (Contains (numbers nodes)) (some.4.0 ∙ at) (listed-number nodes some.1 (some.0, some.2, some.3))
    known gone (fall ∷ falls) (some, rest) n (suc k, low, at) = known (gone ++ fall.node ∷ []) falls rest n (k, (let l : suc k < suc (length (fallen falls)) = low in omega arith), at)

    down : is_matched nodes edges n ≡ false
    down =
        by_bool (is_matched nodes edges n) (is_matched nodes edges n ≡ false)
        (λ t.
        let found = found-part (λ set. is_closed nodes edges set && is_member nat_eq set n) (numbers nodes) t in
        let closed = and_left (is_closed nodes edges found.0) (is_member nat_eq found.0 n) found.1 in
        let member = and_right (is_closed nodes edges found.0) (is_member nat_eq found.0 n) found.1 in
        let out = falling-out nodes edges found.0 closed [] falls (λ m e. absurd (let never : false ≡ true = e in cc)) h n has in
        absurd (let never : false ≡ true = sym out ∙ member in cc))
        (λ f. f)
