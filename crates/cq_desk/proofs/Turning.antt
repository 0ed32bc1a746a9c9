-- Three states that take turns, before an edit and after it.
use mathlib.Core.Logic.{◌⊎◌, inl, inr}
use Rattle.std.proofs.Common.{◌≡◌, ℕ, ◌+◌, ◌-◌, ◌<◌, ◌≤◌, min, nat_le, true, false, if◌then◌else◌, List, [], ◌∷◌, ◌++◌, length, take, drop, fold, Option, refl, ap, sym, ◌∙◌, subst, arith, length-append, length-drop}
use Rattle.std.proofs.lemmas.Bool.{le-leb, lt-leb}
use Rattle.std.proofs.lemmas.List.{append-nil, map-append, take-append-le, drop-append-le, take-append-drop, drop-take, take-take, take_all, drop_all}
use Rattle.std.proofs.lemmas.Grind.{fold-append}
use Rattle.cq_desk.specs.Machine.{most_entries}
use Rattle.cq_desk.specs.Replies.{admitted, journal_edits}
use Rattle.cq_desk.specs.Steps.Turns.{TurnsRecord, AreInTurn, AreCounted, LeadsOn, reply_to, published, renewed, working_content, shown_content}
use Rattle.cq_desk.specs.declared.journal.Entry.{Entry}
use Rattle.cq_desk.specs.declared.reply.Reply.TheVariants.{JournalFull}

one_has : (taken more published n : ℕ) → (taken ≡ n) ⊎ (published ≡ n) → (more ≡ n) ⊎ (taken < n) → (more ≡ n) ⊎ (published ≡ n)
one_has taken more published n one (inl all) = inl all
one_has taken more published n (inl same) (inr lacks) = absurd (omega (arith, same, lacks))
one_has taken more published n (inr done) (inr lacks) = inr done

-- the entries before the journal, and then those of the journal, are all
pub whole : {C E : Type 0} (after : C → E → C) (root : C) (skipped : ℕ) (es : List (Entry E)) → fold after (fold after root (journal_edits (take skipped es))) (journal_edits (drop skipped es)) ≡ fold after root (journal_edits es)
whole after root skipped es =
    sym (fold-append after root (journal_edits (take skipped es)) (journal_edits (drop skipped es)))
    ∙ ap (fold after root) (sym (map-append (λ e. e.edit) (take skipped es) (drop skipped es)) ∙ ap journal_edits (take-append-drop skipped es))

-- a front of the journal
pub front : {C E : Type 0} (after : C → E → C) (root : C) (skipped published : ℕ) (es : List (Entry E)) → skipped ≤ published → fold after (fold after root (journal_edits (take skipped es))) (journal_edits (take (published - skipped) (drop skipped es))) ≡ fold after root (journal_edits (take published es))
front after root skipped published es short =
    let cut : take skipped (take published es) ≡ take skipped es = take-take skipped published es short in
    let all : published ≡ skipped + (published - skipped) = omega (arith, short) in
    let rest : drop skipped (take published es) ≡ take (published - skipped) (drop skipped es) = ap (λ n. drop skipped (take n es)) all ∙ drop-take skipped (published - skipped) es in
    ap (λ zs. fold after (fold after root (journal_edits zs)) (journal_edits (take (published - skipped) (drop skipped es)))) (sym cut)
    ∙ (ap (λ zs. fold after (fold after root (journal_edits (take skipped (take published es)))) (journal_edits zs)) (sym rest) ∙ whole after root skipped (take published es))

-- the view of them, by their entries
abbrev pub viewed : {C E : Type 0} → (C → E → C) → C → (limit base skipped before published : ℕ) → List (Entry E) → TurnsRecord C E
viewed after root limit base skipped before published es =
    record { opening = fold after root (journal_edits (take skipped es)); limit = limit; base = base; journal = drop skipped es; published = published - skipped; earlier = fold after root (journal_edits (take before es)) }

pub seen_as : {C E : Type 0} (after : C → E → C) (root : C) (limit base skipped before published : ℕ) (es fs : List (Entry E)) (a : TurnsRecord C E) → fs ≡ es → viewed after root limit base skipped before published es ≡ a → viewed after root limit base skipped before published fs ≡ a
seen_as after root limit base skipped before published es fs a same view = ap (viewed after root limit base skipped before published) same ∙ view

pub seen_same : {C E : Type 0} (a b : TurnsRecord C E) → b ≡ a → b ≡ record a { journal = a.journal ++ [] }
seen_same {C} {E} a b is = let F : List (Entry E) → TurnsRecord C E = λ z. record a { journal = z } in is ∙ ap F (sym (append-nil a.journal))

pub seen_more : {C E : Type 0} (after : C → E → C) (root : C) (limit base skipped before published : ℕ) (es fs : List (Entry E)) (e : Entry E) (a : TurnsRecord C E) → fs ≡ es ++ e ∷ [] → skipped ≤ length es → before ≤ length es → viewed after root limit base skipped before published es ≡ a → viewed after root limit base skipped before published fs ≡ record a { journal = a.journal ++ e ∷ [] }
seen_more {C} {E} after root limit base skipped before published es fs e a more one two view =
    let F : List (Entry E) → List (Entry E) → List (Entry E) → TurnsRecord C E =
    λ xs js ys. record { opening = fold after root (journal_edits xs); limit = limit; base = base; journal = js; published = published - skipped; earlier = fold after root (journal_edits ys) } in
    let G : TurnsRecord C E → TurnsRecord C E = λ v. record v { journal = v.journal ++ e ∷ [] } in
    ap (viewed after root limit base skipped before published) more
    ∙ (ap (λ xs. F xs (drop skipped (es ++ e ∷ [])) (take before (es ++ e ∷ []))) (take-append-le skipped es (e ∷ []) one)
    ∙ (ap (λ js. F (take skipped es) js (take before (es ++ e ∷ []))) (drop-append-le skipped es (e ∷ []) one)
    ∙ (ap (λ ys. F (take skipped es) (drop skipped es ++ e ∷ []) ys) (take-append-le before es (e ∷ []) two) ∙ ap G view)))

-- the reply to an edit, if the journal is not full and the working state says this
module _ {C E W : Type 0} (after : C → E → C) (why : C → E → Option W) (turns : TurnsRecord C E) (e : E) where
  pub reply_full : (count : ℕ) → count ≡ length turns.journal → turns.limit ≤ count → JournalFull ≡ reply_to after why turns e
  reply_full count is full =
      let all : nat_le turns.limit (length turns.journal) ≡ true = le-leb turns.limit (length turns.journal) (omega (arith, full, is)) in
      ap (λ b. if b then JournalFull else admitted (turns.base + length turns.journal) (why (working_content after turns) e)) (sym all)

  pub reply_room : (count : ℕ) (now : C) (r : Option W) → count ≡ length turns.journal → count < turns.limit → now ≡ working_content after turns → r ≡ why now e → admitted (turns.base + count) r ≡ reply_to after why turns e
  reply_room count now r is room works answer =
      let short : nat_le turns.limit (length turns.journal) ≡ false = lt-leb turns.limit (length turns.journal) (omega (arith, room, is)) in
      ap (λ n. admitted (turns.base + n) r) is ∙ (ap (admitted (turns.base + length turns.journal)) (answer ∙ ap (λ c. why c e) works)
      ∙ ap (λ b. if b then JournalFull else admitted (turns.base + length turns.journal) (why (working_content after turns) e)) (sym short))

module _ {C E : Type 0} (after : C → E → C) (root past shown : C) (limit base skipped before behind : ℕ) where
  -- what their type says of them
  abbrev pub Stand : C → List (Entry E) → ℕ → ℕ → Type 0
  Stand other es published taken = AreInTurn after root past shown other es behind published taken × AreCounted limit base (length es) skipped published before behind

  -- with the entries that these are
  pub stand_as : (other : C) (es fs : List (Entry E)) (published taken : ℕ) → fs ≡ es → Stand other es published taken → Stand other fs published taken
  stand_as other es fs published taken same inv = subst (λ zs. Stand other zs published taken) (sym same) inv

  -- the other one took in what it lacked, or some of it
  pub caught_up : (other now : C) (js ks ls : List (Entry E)) (published taken more : ℕ) → ks ≡ js → ls ≡ ks → LeadsOn after ls other taken now more → more ≤ length ls → (more ≡ length ls) ⊎ (taken < length ls) → Stand other js published taken → Stand now ks published more
  caught_up other now js ks ls published taken more same is leads within ends both =
      let inv = both.0 in let back : js ≡ ls = sym (is ∙ same) in let n = ap length back in let p = inv.published_within in
      let one : (taken ≡ length ls) ⊎ (published ≡ length ls) = subst (λ k. (taken ≡ k) ⊎ (published ≡ k)) n inv.one_has_all in (
        subst (λ zs. AreInTurn after root past shown now zs behind published more) is record {
          keeps = inv.keeps ∙ ap (λ zs. fold after root (journal_edits (take behind zs))) back;
          shows = inv.shows ∙ ap (λ zs. fold after root (journal_edits (take published zs))) back;
          follows = leads root (inv.follows ∙ ap (λ zs. fold after root (journal_edits (take taken zs))) back);
          published_within = omega (arith, p, n);
          taken_within = within;
          one_has_all = one_has taken more published (length ls) one ends;
        },
        subst (λ zs. AreCounted limit base (length zs) skipped published before behind) (sym same) both.1,
      )

  -- the other one has all
  pub working_is : (other : C) (js ks : List (Entry E)) (published taken : ℕ) → taken ≡ length ks → ks ≡ js → Stand other ks published taken → other ≡ fold after root (journal_edits js)
  working_is other js ks published taken all is inv = inv.0.follows ∙ ap (λ zs. fold after root (journal_edits zs)) (take_all taken ks (omega (arith, all)) ∙ is)

  -- which is what the whole journal leaves
  pub works_as : (now : C) (es : List (Entry E)) (published : ℕ) (a : TurnsRecord C E) → viewed after root limit base skipped before published es ≡ a → now ≡ fold after root (journal_edits es) → now ≡ working_content after a
  works_as now es published a view is = subst (λ v. now ≡ working_content after v) view (is ∙ sym (whole after root skipped es))

  -- one of them has all
  pub shown_has : (other : C) (es : List (Entry E)) (published taken : ℕ) → taken < length es → Stand other es published taken → shown ≡ fold after root (journal_edits es)
  shown_has other es published taken lacks inv =
      inv.0.shows ∙ ap (λ zs. fold after root (journal_edits zs)) (take_all published es (elim inv.0.one_has_all [ inl all ↦ absurd (omega (arith, all, lacks)) | inr done ↦ omega (arith, done) ]))

  -- all was published
  pub published_seen : (es : List (Entry E)) (was now : ℕ) (a : TurnsRecord C E) → now ≡ length es → skipped ≤ was → viewed after root limit base skipped before was es ≡ a → viewed after root limit base skipped was now es ≡ published after a
  published_seen es was now a all cut view =
      let n = length-drop skipped es in let count : now - skipped ≡ length (drop skipped es) = omega (arith, n, all) in
      let F : ℕ → C → TurnsRecord C E = λ p c. record { opening = fold after root (journal_edits (take skipped es)); limit = limit; base = base; journal = drop skipped es; published = p; earlier = c } in
      ap (λ p. F p (fold after root (journal_edits (take was es)))) count ∙ (ap (F (length (drop skipped es))) (sym (front after root skipped was es cut)) ∙ ap (published after) view)

  -- and took in one more
  pub took_in : (other now : C) (js ks : List (Entry E)) (entry : Entry E) (published taken more : ℕ) → taken ≡ length js → ks ≡ js ++ entry ∷ [] → now ≡ after other entry.edit → more ≡ length ks → length js < skipped + limit → Stand other js published taken → Stand now ks published more
  took_in other now js ks entry published taken more all is next count short both =
      let inv = both.0 in let counted = both.1 in let fits = counted.numbers in let low = counted.behind_within in let high = counted.before_within in let one = counted.one_is_before in let cut = counted.skipped_within in
      let n : length ks ≡ length js + 1 = ap length is ∙ length-append js (entry ∷ []) in let p = inv.published_within in
      let edits : journal_edits ks ≡ journal_edits js ++ entry.edit ∷ [] = ap journal_edits is ∙ map-append (λ e. e.edit) js (entry ∷ []) in
      let was : other ≡ fold after root (journal_edits js) = working_is other js js published taken all refl both in (
        record {
          keeps = inv.keeps ∙ ap (λ zs. fold after root (journal_edits zs)) (sym (take-append-le behind js (entry ∷ []) (omega (arith, low, high, p))) ∙ ap (take behind) (sym is));
          shows = inv.shows ∙ ap (λ zs. fold after root (journal_edits zs)) (sym (take-append-le published js (entry ∷ []) p) ∙ ap (take published) (sym is));
          follows = next ∙ (ap (λ c. after c entry.edit) was ∙ (sym (fold-append after root (journal_edits js) (entry.edit ∷ [])) ∙ ap (fold after root) (sym edits ∙ ap journal_edits (sym (take_all more ks (omega (arith, count)))))));
          published_within = omega (arith, n, p);
          taken_within = omega (arith, count);
          one_has_all = inl count;
        },
        record { behind_within = low; before_within = high; one_is_before = one; skipped_within = cut; within = omega (arith, n, short); numbers = fits },
      )

  -- what was published before the last publish, which the shown state has if it is more than the past one has
  pub shown_was : (other : C) (es : List (Entry E)) (published taken : ℕ) → behind < before → Stand other es published taken → shown ≡ fold after root (journal_edits (take before es))
  shown_was other es published taken more both =
      both.0.shows ∙ ap (λ n. fold after root (journal_edits (take n es))) (elim both.1.one_is_before [ inl low ↦ absurd (omega (arith, low, more)) | inr same ↦ sym same ])

  pub past_was : (other : C) (es : List (Entry E)) (published taken : ℕ) → before ≤ behind → Stand other es published taken → past ≡ fold after root (journal_edits (take before es))
  past_was other es published taken most both =
      let low = both.1.behind_within in let same : behind ≡ before = omega (arith, low, most) in both.0.keeps ∙ ap (λ n. fold after root (journal_edits (take n es))) same

  -- a publish of more entries: each state takes the turn of the next one
  pub rotated : (other : C) (es : List (Entry E)) (published taken now : ℕ) → published < length es → now ≡ length es → Stand other es published taken → AreInTurn after root shown other past es published now behind × AreCounted limit base (length es) skipped now published published
  rotated other es published taken now more all both =
      let inv = both.0 in let counted = both.1 in let low = counted.behind_within in let high = counted.before_within in let cut = counted.skipped_within in let within = counted.within in let fits = counted.numbers in
      let full : taken ≡ now = elim inv.one_has_all [ inl has ↦ omega (arith, has, all) | inr done ↦ absurd (omega (arith, done, more)) ] in (
        record {
          keeps = inv.shows;
          shows = inv.follows ∙ ap (λ n. fold after root (journal_edits (take n es))) full;
          follows = inv.keeps;
          published_within = omega (arith, all);
          taken_within = omega (arith, low, high, more);
          one_has_all = inr all;
        },
        record { behind_within = omega arith; before_within = omega (arith, more, all); one_is_before = inl refl; skipped_within = omega (arith, cut, more, all); within = within; numbers = fits },
      )

  -- a publish of no more entries
  pub stayed : (other : C) (es : List (Entry E)) (published taken : ℕ) → Stand other es published taken → AreInTurn after root past shown other es behind published taken × AreCounted limit base (length es) skipped published published behind
  stayed other es published taken both =
      let counted = both.1 in let low = counted.behind_within in let high = counted.before_within in (
        both.0,
        record { behind_within = omega (arith, low, high); before_within = omega arith; one_is_before = inr refl; skipped_within = counted.skipped_within; within = counted.within; numbers = counted.numbers },
      )

  -- a checkpoint: the entries that the past state lacks, over its content
  pub renewed_stand : (other : C) (es fs : List (Entry E)) (published more left count : ℕ) → Stand other es published more → published ≡ length es → more ≡ length es → fs ≡ drop behind es → left ≡ length fs → count + skipped ≡ length es → AreInTurn after past past shown other fs 0 left left × AreCounted (min limit (most_entries - (base + count))) (base + count) (length fs) left left (before - behind) 0
  renewed_stand other es fs published more left count both all caught rest long n =
      let inv = both.0 in let counted = both.1 in let fits = counted.numbers in let within = counted.within in let low = counted.behind_within in let high = counted.before_within in
      let size : length fs ≡ length es - behind = ap length rest ∙ length-drop behind es in
      let same : fold after past (journal_edits (take left fs)) ≡ fold after root (journal_edits es) =
      ap (λ zs. fold after past (journal_edits zs)) (take_all left fs (omega (arith, long)) ∙ rest) ∙ (ap (λ c. fold after c (journal_edits (drop behind es))) inv.keeps ∙ whole after root behind es) in (
        record {
          keeps = refl;
          shows = inv.shows ∙ (ap (λ zs. fold after root (journal_edits zs)) (take_all published es (omega (arith, all))) ∙ sym same);
          follows = inv.follows ∙ (ap (λ zs. fold after root (journal_edits zs)) (take_all more es (omega (arith, caught))) ∙ sym same);
          published_within = omega (arith, long);
          taken_within = omega (arith, long);
          one_has_all = inl long;
        },
        record {
          behind_within = omega arith;
          before_within = omega (arith, long, size, all, high, low);
          one_is_before = elim counted.one_is_before [ inl none ↦ inl (omega (arith, none)) | inr done ↦ inr (omega (arith, done, all, long, size)) ];
          skipped_within = omega arith;
          within = omega (arith, long);
          numbers = omega (arith, fits, within, n);
        },
      )

  pub renewed_seen : (other : C) (es fs : List (Entry E)) (published taken left count : ℕ) (a : TurnsRecord C E) → Stand other es published taken → published ≡ length es → fs ≡ drop behind es → left ≡ length fs → count ≡ length (drop skipped es) → viewed after root limit base skipped before published es ≡ a → viewed after past (min limit (most_entries - (base + count))) (base + count) left (before - behind) left fs ≡ renewed after a
  renewed_seen other es fs published taken left count a both all rest long n view =
      let is = both.0.keeps in
      let opens : fold after past (journal_edits (take left fs)) ≡ shown_content after (viewed after root limit base skipped before published es) =
      ap (λ zs. fold after past (journal_edits zs)) (take_all left fs (omega (arith, long)) ∙ rest)
      ∙ (ap (λ c. fold after c (journal_edits (drop behind es))) is ∙ (whole after root behind es
      ∙ (ap (λ zs. fold after root (journal_edits zs)) (sym (take_all published es (omega (arith, all)))) ∙ sym (front after root skipped published es both.1.skipped_within)))) in
      let was : fold after past (journal_edits (take (before - behind) fs)) ≡ fold after root (journal_edits (take before es)) =
      ap (λ zs. fold after past (journal_edits (take (before - behind) zs))) rest
      ∙ (ap (λ c. fold after c (journal_edits (take (before - behind) (drop behind es)))) is ∙ front after root behind before es both.1.behind_within) in
      let none : drop left fs ≡ [] = drop_all left fs (omega (arith, long)) in
      let zero : left - left ≡ 0 = omega arith in
      let F : C → ℕ → List (Entry E) → ℕ → C → TurnsRecord C E =
      λ o k js p c. record { opening = o; limit = min limit (most_entries - (base + k)); base = base + k; journal = js; published = p; earlier = c } in
      let now = fold after past (journal_edits (take (before - behind) fs)) in
      ap (λ o. F o count (drop left fs) (left - left) now) opens
      ∙ (ap (λ k. F (shown_content after (viewed after root limit base skipped before published es)) k (drop left fs) (left - left) now) n
      ∙ (ap (λ js. F (shown_content after (viewed after root limit base skipped before published es)) (length (drop skipped es)) js (left - left) now) none
      ∙ (ap (λ p. F (shown_content after (viewed after root limit base skipped before published es)) (length (drop skipped es)) [] p now) zero
      ∙ (ap (F (shown_content after (viewed after root limit base skipped before published es)) (length (drop skipped es)) [] 0) was ∙ ap (renewed after) view))))
