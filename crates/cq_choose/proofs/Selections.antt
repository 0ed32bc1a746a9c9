-- Selections of offers are coordinating choices, and the other way round.
use Rattle.std.proofs.Common.{◌≡◌, ℕ, zero, suc, ◌<◌, inl, inr, Bool, false, nat_eq, List, [], ◌∷◌, length, map, get_or, refl, sym, ap, subst, ◌∙◌, arith, Option, Some, None, bytes_eq}
use Rattle.std.specs.Prelude.{option_map}
use Rattle.std.specs.List.{All, Contains, IsDistinct, slice_get}
use Rattle.std.proofs.lemmas.Bool.Decides.{Decides-eqb}
use Rattle.std.proofs.lemmas.List.{length-map}
use Rattle.std.proofs.lemmas.Map.Keys.{IsDistinct-head, IsDistinct-tail, IsDistinct-cons}
use Rattle.std.proofs.lemmas.Option.{get_or_from_slice_get, same_Some, slice_get_within}
use Rattle.std.proofs.lemmas.Slice.Eq.{bytes_eq-Decides}
use Rattle.cq_atom.specs.Atom.{AtomRecord}
use Rattle.cq_atom.specs.Query.{QueryRecord}
use Rattle.cq_atom.specs.Valuation.{under}
use Rattle.cq_board.specs.Pool.{PoolRecord, IsPool}
use Rattle.cq_board.specs.Named.{query_named}
use Rattle.cq_board.specs.Choice.{ChoiceRecord, chosen_name, bound, awaited_by, offered_by, awaited, offered, IsGrounded}
use Rattle.cq_select.specs.declared.supply.Supply.{Supply}
use Rattle.cq_select.specs.declared.search.Selected.{Selected}
use Rattle.cq_select.specs.declared.search.Selected.TheVariants as selected
use Rattle.cq_select.specs.Selection as selection
use Rattle.cq_select.specs.Selection.{member_count, owner_of, needs_of, suppliers_of, IsSupplied, IsSelection}
use Rattle.cq_choose.specs.declared.choosing.Answer.{Answer}
use Rattle.cq_choose.specs.declared.choosing.Answer.TheVariants.{Found, Impossible, Undecided}
use Rattle.cq_choose.specs.Choosing.{IfFound, IsChoiceFor}
use Rattle.cq_choose.specs.Steps.Answers.{Answers}
use Rattle.cq_choose.specs.declared.keys.Good.TheVariants.{Query, Atom}
use Rattle.cq_choose.specs.Steps.Goods.{GoodContent}
use Rattle.cq_choose.specs.Steps.Reach.{IsTaken, IsEnough}
use Rattle.cq_choose.specs.Steps.Offers.{OfferRecord, offers_of, choice_of, choices_of, head_goods, goods_of, awaited_goods}
use Rattle.cq_choose.specs.Steps.Stocks.{StockRecord, number_in, stocked, needs_in}
use Rattle.cq_choose.proofs.Lists.{by_option, not_true, In, In-Contains, Contains-In, All-In, In-All, Any-In, In-Any, each-In, In-each, In-at, at-In, In-map, In-map_gives, In-flat_map, In-flat_map_gives, In-filter_map, In-filter_map_gives, filter_map-some}
use Rattle.cq_choose.proofs.Stocks.{holders, holders-stocked, holders-stocked_gives}
use Rattle.cq_choose.proofs.Offered.{at-mapped, IsOfferOf, offers-give, offer-pending, offer-grounded, one-place, one-name, grounded-offered}

-- a choice that some offer makes
pub record IsReady (pool : PoolRecord) (spare : List Bool) (choice : ChoiceRecord) : Type 0 where
  pub grounded : IsGrounded pool choice
  pub taken : IsTaken pool spare choice

distinct-nil : {X : Type 0} (e : X → X → Bool) → IsDistinct e []
unfolding IsDistinct
distinct-nil e = tt

-- an offer awaits and offers what its choice does
awaited-goods : (o : OfferRecord) (atom : AtomRecord) → In atom (awaited_by (Some o.query) o.values) → In (Atom atom) (awaited_goods o)
awaited-goods o atom h =
    let found = In-map_gives (under (bound o.query o.values)) o.query.posts atom h in
    subst (λ (a : AtomRecord). In (Atom a) (awaited_goods o)) (sym found.2) (In-map (λ post. Atom (under (bound o.query o.values) post)) o.query.posts found.0 found.1)

goods-awaited : (o : OfferRecord) (g : GoodContent) → In g (awaited_goods o) → (atom : AtomRecord) × In atom (awaited_by (Some o.query) o.values) × (g ≡ Atom atom)
goods-awaited o g h =
    let found = In-map_gives (λ post. Atom (under (bound o.query o.values) post)) o.query.posts g h in
    (under (bound o.query o.values) found.0, In-map (under (bound o.query o.values)) o.query.posts found.0 found.1, found.2)

pub offered-goods : (o : OfferRecord) (atom : AtomRecord) → In atom (offered_by (Some o.query) o.values) → In (Atom atom) (goods_of o)
offered-goods o atom h =
    let found = In-map_gives (under (bound o.query o.values)) o.query.heads atom h in
    inr (subst (λ (a : AtomRecord). In (Atom a) (head_goods o)) (sym found.2) (In-map (λ head. Atom (under (bound o.query o.values) head)) o.query.heads found.0 found.1))

pub goods-offered : (o : OfferRecord) (atom : AtomRecord) → In (Atom atom) (goods_of o) → In atom (offered_by (Some o.query) o.values)
goods-offered o atom (inl e) = cc
goods-offered o atom (inr h) =
    let found = In-map_gives (λ head. Atom (under (bound o.query o.values) head)) o.query.heads (Atom atom) h in
    let same : atom ≡ under (bound o.query o.values) found.0 = let e = found.2 in cc in
    subst (λ (a : AtomRecord). In a (offered_by (Some o.query) o.values)) (sym same) (In-map (under (bound o.query o.values)) o.query.heads found.0 found.1)

query-good : (o : OfferRecord) (name : List ℕ) → In (Query name) (goods_of o) → name ≡ o.name
query-good o name (inl e) = cc
query-good o name (inr h) = let found = In-map_gives (λ head. Atom (under (bound o.query o.values) head)) o.query.heads (Query name) h in let e = found.2 in absurd cc

module _ {A : Type 0} (pool : PoolRecord) (good : IsPool pool) (spare : List Bool) (names : List (List ℕ)) (offers : List OfferRecord) (stock : StockRecord) (supply : Supply A) (wanted : List ℕ)
    (are : offers ≡ offers_of pool spare) (kept : stock ≡ stocked offers)
    (owners : map (λ m. m.owner) supply.members.items ≡ map (λ o. o.place) offers)
    (needs : map (λ m. m.needs.items) supply.members.items ≡ map (needs_in stock) offers)
    (suppliers : map (λ s. s.items) supply.suppliers.items ≡ stock.suppliers)
    (wants : wanted ≡ map (λ name. number_in stock (Query name)) names) where
  offer-is : (m : ℕ) (o : OfferRecord) → slice_get offers m ≡ Some o → IsOfferOf pool o
  offer-is m o here = offers-give pool good spare o (subst (In o) are (In-at offers m o here))

  counted : member_count supply ≡ length offers
  counted = sym (length-map supply.members.items (λ m. m.owner)) ∙ ap length owners ∙ length-map offers (λ (o : OfferRecord). o.place)

  owner-at : (m : ℕ) (o : OfferRecord) → slice_get offers m ≡ Some o → owner_of supply m ≡ o.place
  unfolding owner_of
  owner-at m o here = ap (λ (l : List ℕ). get_or l m 0) owners ∙ get_or_from_slice_get (map (λ (o : OfferRecord). o.place) offers) m o.place 0 (at-mapped (λ (o : OfferRecord). o.place) offers m o here)

  needs-at : (m : ℕ) (o : OfferRecord) → slice_get offers m ≡ Some o → needs_of supply m ≡ needs_in stock o
  unfolding needs_of
  needs-at m o here = ap (λ (l : List (List ℕ)). get_or l m []) needs ∙ get_or_from_slice_get (map (needs_in stock) offers) m (needs_in stock o) [] (at-mapped (needs_in stock) offers m o here)

  suppliers-at : (g : GoodContent) → suppliers_of supply (number_in stock g) ≡ holders (stocked offers) g
  unfolding suppliers_of holders
  suppliers-at g = ap (λ (l : List (List ℕ)). get_or l (number_in stock g) []) suppliers ∙ ap (λ (s : StockRecord). holders s g) kept

  supplied-gives : (chosen : List ℕ) (g : GoodContent) → IsSupplied supply chosen (number_in stock g) → (m : ℕ) × (o : OfferRecord) × In m chosen × (slice_get offers m ≡ Some o) × In g (goods_of o)
  supplied-gives chosen g h =
      let found = In-Any (Contains (suppliers_of supply (number_in stock g))) chosen h in
      let held = subst (In found.0) (suppliers-at g) (In-Contains (suppliers_of supply (number_in stock g)) found.0 found.2) in
      let offer = holders-stocked_gives offers g found.0 held in
      (found.0, offer.0, found.1, offer.1, offer.2)

  supplied-has : (chosen : List ℕ) (g : GoodContent) (m : ℕ) (o : OfferRecord) → In m chosen → slice_get offers m ≡ Some o → In g (goods_of o) → IsSupplied supply chosen (number_in stock g)
  supplied-has chosen g m o among here has =
      Any-In (Contains (suppliers_of supply (number_in stock g))) chosen m among
      (Contains-In (suppliers_of supply (number_in stock g)) m (subst (In m) (sym (suppliers-at g)) (holders-stocked offers g m o here has)))

  -- ---- a selection is a choice

  abbrev chosen_at : ℕ → Option ChoiceRecord
  chosen_at member = option_map choice_of (slice_get offers member)

  has-choice : (chosen : List ℕ) (m : ℕ) (o : OfferRecord) → In m chosen → slice_get offers m ≡ Some o → In (choice_of o) (choices_of offers chosen)
  has-choice chosen m o among here = In-filter_map chosen_at chosen m (choice_of o) among (ap (option_map choice_of) here)

  of-choice : (chosen : List ℕ) (c : ChoiceRecord) → In c (choices_of offers chosen) → (m : ℕ) × (o : OfferRecord) × In m chosen × (slice_get offers m ≡ Some o) × (c ≡ choice_of o)
  of-choice chosen c h =
      let found = In-filter_map_gives chosen_at chosen c h in
      by_option (slice_get offers found.0) ((m : ℕ) × (o : OfferRecord) × In m chosen × (slice_get offers m ≡ Some o) × (c ≡ choice_of o))
      (λ n. absurd (let never : None ≡ Some c = sym (ap (option_map choice_of) n) ∙ found.2 in cc))
      (λ o s. (found.0, o, found.1, s, sym (same_Some (choice_of o) c (sym (ap (option_map choice_of) s) ∙ found.2))))

  -- the offer at a member's number
  offer-at : (m : ℕ) → m < length offers → (o : OfferRecord) × (slice_get offers m ≡ Some o)
  offer-at m low =
      by_option (slice_get offers m) ((o : OfferRecord) × (slice_get offers m ≡ Some o))
      (λ n. absurd (past offers m low n))
      (λ o s. (o, s))
    where
      past : (xs : List OfferRecord) (k : ℕ) → k < length xs → slice_get xs k ≡ None → ⊥
      past [] k l n = omega (arith, l)
      past (x ∷ xs) zero l n = cc
      past (x ∷ xs) (suc k) l n = past xs k (omega arith) n

  distinct-choices : (chosen : List ℕ) → ((m : ℕ) → In m chosen → m < length offers) → IsDistinct nat_eq (map (owner_of supply) chosen) → IsDistinct bytes_eq (map chosen_name (choices_of offers chosen))
  distinct-choices [] low d = distinct-nil bytes_eq
  distinct-choices (m ∷ chosen) low d =
      let found = offer-at m (low m (inl refl)) in
      let o = found.0 in
      let apart = IsDistinct-head nat_eq (owner_of supply m) (map (owner_of supply) chosen) d in
      subst (λ (cs : List ChoiceRecord). IsDistinct bytes_eq (map chosen_name cs)) (sym (filter_map-some chosen_at m chosen (choice_of o) (ap (option_map choice_of) found.1)))
      (IsDistinct-cons bytes_eq o.name (map chosen_name (choices_of offers chosen))
      (each-In (λ (y : List ℕ). bytes_eq o.name y ≡ false) (map chosen_name (choices_of offers chosen))
      (λ y h. let c = In-map_gives chosen_name (choices_of offers chosen) y h in
      let other = of-choice chosen c.0 c.1 in
      let p = other.1 in
      not_true (bytes_eq o.name y)
      (λ t. let same : o.name ≡ p.name = (bytes_eq-Decides o.name y).0 t ∙ c.2 ∙ ap chosen_name other.4 in
      let places = one-place pool good spare o p (offer-is m o found.1) (offer-is other.0 p other.3) same in
      let equal : owner_of supply m ≡ owner_of supply other.0 = owner-at m o found.1 ∙ places ∙ sym (owner-at other.0 p other.3) in
      let no = In-each (λ (n : ℕ). nat_eq (owner_of supply m) n ≡ false) (map (owner_of supply) chosen) apart (owner_of supply other.0) (In-map (owner_of supply) chosen other.0 other.2) in
      let yes = (Decides-eqb (owner_of supply m) (owner_of supply other.0)).1 equal in
      cc)))
      (distinct-choices chosen (λ n h. low n (inr h)) (IsDistinct-tail nat_eq (owner_of supply m) (map (owner_of supply) chosen) d)))

  module _ (chosen : List ℕ) (is : IsSelection supply wanted chosen) where
    abbrev choices : List ChoiceRecord
    choices = choices_of offers chosen

    choices-grounded : (c : ChoiceRecord) → In c choices → IsGrounded pool c
    choices-grounded c h = let of = of-choice chosen c h in subst (IsGrounded pool) (sym of.4) (offer-grounded pool good spare of.1 (offer-is of.0 of.1 of.3))

    choices-offer : (atom : AtomRecord) (m : ℕ) (o : OfferRecord) → In m chosen → slice_get offers m ≡ Some o → In (Atom atom) (goods_of o) → In atom (offered pool.pending choices)
    choices-offer atom m o among here has =
        In-flat_map (λ (c : ChoiceRecord). offered_by (query_named c.name pool.pending) c.values) choices (choice_of o) atom (has-choice chosen m o among here)
        (subst (λ (q : Option QueryRecord). In atom (offered_by q o.values)) (sym (offer-pending pool good spare o (offer-is m o here))) (goods-offered o atom has))

    choices-meet : (atom : AtomRecord) (m : ℕ) (o : OfferRecord) → In m chosen → slice_get offers m ≡ Some o → In (Atom atom) (awaited_goods o) → In atom (offered pool.pending choices)
    choices-meet atom m o among here asked =
        let need = subst (In (number_in stock (Atom atom))) (sym (needs-at m o here)) (In-map (number_in stock) (awaited_goods o) (Atom atom) asked) in
        let met = In-All (IsSupplied supply chosen) (needs_of supply m) (In-All (λ (n : ℕ). All (IsSupplied supply chosen) (needs_of supply n)) chosen is.needs m among) (number_in stock (Atom atom)) need in
        let by = supplied-gives chosen (Atom atom) met in
        choices-offer atom by.0 by.1 by.2 by.3 by.4

    choices-serve : (atom : AtomRecord) (c : ChoiceRecord) (m : ℕ) (o : OfferRecord) → In m chosen → slice_get offers m ≡ Some o → c ≡ choice_of o
        → In atom (awaited_by (query_named c.name pool.pending) c.values) → In atom (offered pool.pending choices)
    choices-serve atom c m o among here made asked =
        choices-meet atom m o among here
        (awaited-goods o atom
        (subst (λ (q : Option QueryRecord). In atom (awaited_by q o.values)) (offer-pending pool good spare o (offer-is m o here))
        (subst (λ (d : ChoiceRecord). In atom (awaited_by (query_named d.name pool.pending) d.values)) made asked)))

    choices-served : (atom : AtomRecord) → In atom (awaited pool.pending choices) → In atom (offered pool.pending choices)
    choices-served atom h =
        let from = In-flat_map_gives (λ (c : ChoiceRecord). awaited_by (query_named c.name pool.pending) c.values) choices atom h in
        let of = of-choice chosen from.0 from.1 in
        choices-serve atom from.0 of.0 of.1 of.2 of.3 of.4 from.2

    choices-named : (name : List ℕ) → In name names → In name (map chosen_name choices)
    choices-named name h =
        let met = In-All (IsSupplied supply chosen) wanted is.wants (number_in stock (Query name)) (subst (In (number_in stock (Query name))) (sym wants) (In-map (λ name. number_in stock (Query name)) names name h)) in
        let by = supplied-gives chosen (Query name) met in
        subst (λ (n : List ℕ). In n (map chosen_name choices)) (sym (query-good by.1 name by.4)) (In-map chosen_name choices (choice_of by.1) (has-choice chosen by.0 by.1 by.2 by.3))

    pub selection-choice : IsChoiceFor pool names choices
    selection-choice = record {
      coordinating = record {
        distinct = distinct-choices chosen (λ m h. let low = In-All (λ (n : ℕ). n < member_count supply) chosen is.known m h in let e = counted in omega (arith, low, e)) is.apart;
        grounded = All-In (IsGrounded pool) choices choices-grounded;
        served = All-In (Contains (offered pool.pending choices)) (awaited pool.pending choices) (λ atom h. Contains-In (offered pool.pending choices) atom (choices-served atom h));
      };
      named = All-In (Contains (map chosen_name choices)) names (λ name h. Contains-In (map chosen_name choices) name (choices-named name h));
    }

  -- ---- a choice is a selection

  pub number-for : (c : ChoiceRecord) → IsReady pool spare c → (m : ℕ) × (o : OfferRecord) × (slice_get offers m ≡ Some o) × (choice_of o ≡ c)
  number-for c is =
      let found = grounded-offered pool good spare c is.grounded is.taken in
      let at = at-In offers found.0 (subst (In found.0) (sym are) found.1) in
      (at.0, found.0, at.1, found.2)

  abbrev pub numbers : (choices : List ChoiceRecord) → ((c : ChoiceRecord) → In c choices → IsReady pool spare c) → List ℕ
  numbers [] g = []
  numbers (c ∷ rest) g = (number-for c (g c (inl refl))).0 ∷ numbers rest (λ d h. g d (inr h))

  has-number : (choices : List ChoiceRecord) (g : (c : ChoiceRecord) → In c choices → IsReady pool spare c) (c : ChoiceRecord) → In c choices
      → (m : ℕ) × (o : OfferRecord) × In m (numbers choices g) × (slice_get offers m ≡ Some o) × (choice_of o ≡ c)
  has-number [] g c h = absurd h
  has-number (d ∷ rest) g c (inl e) = let own = number-for d (g d (inl refl)) in (own.0, own.1, inl refl, own.2, own.3 ∙ sym e)
  has-number (d ∷ rest) g c (inr h) = let more = has-number rest (λ d h. g d (inr h)) c h in (more.0, more.1, inr more.2, more.3, more.4)

  of-number : (choices : List ChoiceRecord) (g : (c : ChoiceRecord) → In c choices → IsReady pool spare c) (m : ℕ) → In m (numbers choices g)
      → (c : ChoiceRecord) × (o : OfferRecord) × In c choices × (slice_get offers m ≡ Some o) × (choice_of o ≡ c)
  of-number [] g m h = absurd h
  of-number (d ∷ rest) g m (inl e) = let own = number-for d (g d (inl refl)) in (d, own.1, inl refl, ap (slice_get offers) e ∙ own.2, own.3)
  of-number (d ∷ rest) g m (inr h) = let more = of-number rest (λ d h. g d (inr h)) m h in (more.0, more.1, inr more.2, more.3, more.4)

  distinct-numbers : (choices : List ChoiceRecord) (g : (c : ChoiceRecord) → In c choices → IsReady pool spare c) → IsDistinct bytes_eq (map chosen_name choices) → IsDistinct nat_eq (map (owner_of supply) (numbers choices g))
  distinct-numbers [] g d = distinct-nil nat_eq
  distinct-numbers (c ∷ others) g d =
      let own = number-for c (g c (inl refl)) in
      let m = own.0 in let o = own.1 in
      let rest = numbers others (λ d h. g d (inr h)) in
      let apart = IsDistinct-head bytes_eq c.name (map chosen_name others) d in
      IsDistinct-cons nat_eq (owner_of supply m) (map (owner_of supply) rest)
      (each-In (λ (y : ℕ). nat_eq (owner_of supply m) y ≡ false) (map (owner_of supply) rest)
      (λ y h. let n = In-map_gives (owner_of supply) rest y h in
      let other = of-number others (λ d h. g d (inr h)) n.0 n.1 in
      let p = other.1 in
      not_true (nat_eq (owner_of supply m) y)
      (λ t. let places : o.place ≡ p.place = sym (owner-at m o own.2) ∙ (Decides-eqb (owner_of supply m) y).0 t ∙ n.2 ∙ owner-at n.0 p other.3 in
      let same : c.name ≡ other.0.name = sym (ap chosen_name own.3) ∙ one-name pool good spare o p (offer-is m o own.2) (offer-is n.0 p other.3) places ∙ ap chosen_name other.4 in
      let no = In-each (λ (z : List ℕ). bytes_eq c.name z ≡ false) (map chosen_name others) apart other.0.name (In-map chosen_name others other.0 other.2) in
      let yes = (bytes_eq-Decides c.name other.0.name).1 same in
      cc)))
      (distinct-numbers others (λ d h. g d (inr h)) (IsDistinct-tail bytes_eq c.name (map chosen_name others) d))

  module _ (choices : List ChoiceRecord) (is : IsChoiceFor pool names choices) (all : All (IsTaken pool spare) choices) where
    pub ready : (c : ChoiceRecord) → In c choices → IsReady pool spare c
    ready c h = record { grounded = In-All (IsGrounded pool) choices is.coordinating.grounded c h; taken = In-All (IsTaken pool spare) choices all c h }

    abbrev pub chosen : List ℕ
    chosen = numbers choices ready

    numbers-offer : (atom : AtomRecord) (d : ChoiceRecord) (m : ℕ) (o : OfferRecord) → In m chosen → slice_get offers m ≡ Some o → choice_of o ≡ d
        → In atom (offered_by (query_named d.name pool.pending) d.values) → IsSupplied supply chosen (number_in stock (Atom atom))
    numbers-offer atom d m o among here made offers_it =
        supplied-has chosen (Atom atom) m o among here
        (offered-goods o atom
        (subst (λ (q : Option QueryRecord). In atom (offered_by q o.values)) (offer-pending pool good spare o (offer-is m o here))
        (subst (λ (e : ChoiceRecord). In atom (offered_by (query_named e.name pool.pending) e.values)) (sym made) offers_it)))

    numbers-meet : (atom : AtomRecord) → In atom (awaited pool.pending choices) → IsSupplied supply chosen (number_in stock (Atom atom))
    numbers-meet atom asked =
        let met = In-Contains (offered pool.pending choices) atom (In-All (Contains (offered pool.pending choices)) (awaited pool.pending choices) is.coordinating.served atom asked) in
        let from = In-flat_map_gives (λ (d : ChoiceRecord). offered_by (query_named d.name pool.pending) d.values) choices atom met in
        let by = has-number choices ready from.0 from.1 in
        numbers-offer atom from.0 by.0 by.1 by.2 by.3 by.4 from.2

    numbers-ask : (atom : AtomRecord) (c : ChoiceRecord) (m : ℕ) (o : OfferRecord) → In c choices → slice_get offers m ≡ Some o → choice_of o ≡ c → In atom (awaited_by (Some o.query) o.values)
        → In atom (awaited pool.pending choices)
    numbers-ask atom c m o among here made asked =
        In-flat_map (λ (d : ChoiceRecord). awaited_by (query_named d.name pool.pending) d.values) choices c atom among
        (subst (λ (d : ChoiceRecord). In atom (awaited_by (query_named d.name pool.pending) d.values)) made
        (subst (λ (q : Option QueryRecord). In atom (awaited_by q o.values)) (sym (offer-pending pool good spare o (offer-is m o here))) asked))

    numbers-served : (m : ℕ) → In m chosen → (a : ℕ) → In a (needs_of supply m) → IsSupplied supply chosen a
    numbers-served m h a k =
        let of = of-number choices ready m h in
        let need = In-map_gives (number_in stock) (awaited_goods of.1) a (subst (In a) (needs-at m of.1 of.3) k) in
        let asked = goods-awaited of.1 need.0 need.1 in
        subst (IsSupplied supply chosen) (sym (need.2 ∙ ap (number_in stock) asked.2)) (numbers-meet asked.0 (numbers-ask asked.0 of.0 m of.1 of.2 of.3 of.4 asked.1))

    numbers-wanted : (a : ℕ) → In a wanted → IsSupplied supply chosen a
    numbers-wanted a h =
        let name = In-map_gives (λ name. number_in stock (Query name)) names a (subst (In a) wants h) in
        let named = In-Contains (map chosen_name choices) name.0 (In-All (Contains (map chosen_name choices)) names is.named name.0 name.1) in
        let c = In-map_gives chosen_name choices name.0 named in
        let by = has-number choices ready c.0 c.1 in
        subst (IsSupplied supply chosen) (sym name.2)
        (supplied-has chosen (Query name.0) by.0 by.1 by.2 by.3 (inl (ap Query (c.2 ∙ ap chosen_name (sym by.4)))))

    pub choice-selection : IsSelection supply wanted chosen
    choice-selection = record {
      known = All-In (λ (m : ℕ). m < member_count supply) chosen (λ m h. let of = of-number choices ready m h in let low = slice_get_within offers m of.1 of.3 in let e = counted in omega (arith, low, e));
      apart = distinct-numbers choices ready is.coordinating.distinct;
      needs = All-In (λ (m : ℕ). All (IsSupplied supply chosen) (needs_of supply m)) chosen (λ m h. All-In (IsSupplied supply chosen) (needs_of supply m) (numbers-served m h));
      wants = All-In (IsSupplied supply chosen) wanted numbers-wanted;
    }

  -- ---- what is answered

  pub answers-found : (found : Selected A) (answer : Answer A) → Answers offers found answer → selection.IfFound found (IsSelection supply wanted) → IfFound answer (IsChoiceFor pool names)
  answers-found (selected.Found s) (Found cs) told is = subst (IsChoiceFor pool names) (sym told) (selection-choice s.items is)
  answers-found (selected.Found s) Impossible told is = absurd told
  answers-found (selected.Found s) Undecided told is = absurd told
  answers-found selected.Impossible (Found cs) told is = absurd told
  answers-found selected.Impossible Impossible told is = tt
  answers-found selected.Impossible Undecided told is = absurd told
  answers-found selected.Undecided (Found cs) told is = absurd told
  answers-found selected.Undecided Impossible told is = absurd told
  answers-found selected.Undecided Undecided told is = tt

  pub answers-none : (found : Selected A) (answer : Answer A) → Answers offers found answer → IsEnough pool names spare → (found ≡ selected.Impossible → (chosen : List ℕ) → IsSelection supply wanted chosen → ⊥)
      → answer ≡ Impossible → (choices : List ChoiceRecord) → IsChoiceFor pool names choices → ⊥
  answers-none (selected.Found s) (Found cs) told enough none e = cc
  answers-none (selected.Found s) Impossible told enough none e = absurd told
  answers-none (selected.Found s) Undecided told enough none e = absurd told
  answers-none selected.Impossible (Found cs) told enough none e = absurd told
  answers-none selected.Impossible Impossible told enough none e = λ cs is. let k = enough cs is in none refl (chosen k.0 k.1 k.2) (choice-selection k.0 k.1 k.2)
  answers-none selected.Impossible Undecided told enough none e = absurd told
  answers-none selected.Undecided (Found cs) told enough none e = absurd told
  answers-none selected.Undecided Impossible told enough none e = absurd told
  answers-none selected.Undecided Undecided told enough none e = cc

pub answers-undecided : {A : Type 0} (offers : List OfferRecord) (found : Selected A) (answer : Answer A) → Answers offers found answer → answer ≡ Undecided → found ≡ selected.Undecided
answers-undecided offers (selected.Found s) (Found cs) told e = cc
answers-undecided offers (selected.Found s) Impossible told e = absurd told
answers-undecided offers (selected.Found s) Undecided told e = absurd told
answers-undecided offers selected.Impossible (Found cs) told e = absurd told
answers-undecided offers selected.Impossible Impossible told e = cc
answers-undecided offers selected.Impossible Undecided told e = absurd told
answers-undecided offers selected.Undecided (Found cs) told e = absurd told
answers-undecided offers selected.Undecided Impossible told e = absurd told
answers-undecided offers selected.Undecided Undecided told e = refl
