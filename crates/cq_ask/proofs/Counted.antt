-- Counts, and their pieces.
use Rattle.std.proofs.Common.{◌≡◌, ◌<◌, ◌^◌, ℕ, ◌+◌, suc, true, false, List, [], ◌∷◌, ◌++◌, length, drop, get_or, Some, refl, sym, ap, ◌∙◌, arith, append_assoc, append-nil}
use Rattle.std.specs.Prelude.{fold, codes, decimal, nat_le}
use Rattle.std.specs.List.{flat_map, slice_get}
use Rattle.std.proofs.lemmas.List.{get_or_default}
use Rattle.std.specs.Str.Parse.{AllDigits}
use Rattle.std.proofs.lemmas.Fmt.{decimal_is_IsNumeral_wide}
use Rattle.std.proofs.lemmas.Str.Parse.{digit_from_value}
use Rattle.json.specs.Token.{Token, key, end_object}
use Rattle.json.specs.Tree.{json_tokens}
use Rattle.json.specs.Print.{escape, escape_byte, print, print_from}
use Rattle.json.proofs.Printed.Strings.{escape_byte_plain}
use Rattle.cq_board.proofs.CallerLemmas.{ahead_at, pieces_at, read_at}
use Rattle.cq_render.specs.Data.{total}
use Rattle.cq_render.specs.Limits.{most_kept}
use Rattle.cq_ask.specs.declared.counts.Counts.{Counts}
use Rattle.cq_ask.specs.Answer.{count_line}
use Rattle.cq_ask.specs.Data.{count_json, member_text}
use Rattle.cq_ask.proofs.Unasked.{by_bool}

-- one element more is counted
pub fold_at : {X : Type 0} (f : ℕ → X → ℕ) (count : ℕ) (xs : List X) (i : ℕ) (x : X) → slice_get xs i ≡ Some x → fold f count (drop i xs) ≡ fold f (f count x) (drop (i + 1) xs)
fold_at f count xs i x got = let ahead : drop i xs ≡ x ∷ drop (i + 1) xs = let next : i + 1 ≡ suc i = omega arith in rw next (ahead_at xs i x got) in ap (fold f count) ahead

-- the piece at a place, and those after it
pub part_at : {X : Type 0} (f : X → List ℕ) (xs : List X) (i : ℕ) (d : X) → i < length xs → flat_map f (drop i xs) ≡ f (get_or xs i d) ++ flat_map f (drop (i + 1) xs)
part_at f xs i d low = pieces_at f xs i (get_or xs i d) (read_at xs i (get_or xs i d) low (get_or_default xs i d (get_or xs i d) low))

-- ---- as JSON

-- digits are written as they are
digits_stay : (ds : List ℕ) → AllDigits 10 ds → escape ds ≡ ds
digits_stay [] all = refl
digits_stay (d ∷ ds) all =
    let digit = digit_from_value d all.0 in
    λ i. escape_byte_plain d (λ e. omega (arith, digit, e)) (λ e. omega (arith, digit, e)) (omega (arith, digit)) i ++ digits_stay ds all.1 i

decimal_stays : (n : ℕ) → n < 2 ^ 128 → escape (decimal n) ≡ decimal n
decimal_stays n small = digits_stay (decimal n) (decimal_is_IsNumeral_wide n (omega (arith, small))).0.1

-- a number that all readers keep, and another one
pub number_text : (n : ℕ) → nat_le n most_kept ≡ true → decimal n ≡ print (json_tokens (total n))
unfolding print_from
number_text n few = rw few (sym (append-nil (decimal n)))

pub quoted_text : (n : ℕ) → n < 2 ^ 128 → nat_le n most_kept ≡ false → codes "\"" ++ (decimal n ++ codes "\"") ≡ print (json_tokens (total n))
unfolding print_from
quoted_text n small many = rw (many, decimal_stays n small) (sym (append-nil (34 ∷ (decimal n ++ 34 ∷ []))))

-- a value, and what comes after it
value_then : (n : ℕ) (ts : List Token) → print (json_tokens (total n) ++ ts) ≡ print (json_tokens (total n)) ++ print_from true ts
unfolding print_from
value_then n ts =
    by_bool (nat_le n most_kept) _
    (λ t. rw t (append-of (decimal n)))
    (λ f. rw f (append-of (34 ∷ (escape (decimal n) ++ 34 ∷ []))))
  where
    append-of : (text : List ℕ) → text ++ print_from true ts ≡ (text ++ []) ++ print_from true ts
    append-of text = ap (λ (z : List ℕ). z ++ print_from true ts) (sym (append-nil text))

abbrev value_text : ℕ → List ℕ
value_text n = print (json_tokens (total n))

-- words, a value, and what comes after it
field : (words : List ℕ) (n : ℕ) (ts : List Token) (rest : List ℕ) → print_from true ts ≡ rest → words ++ print (json_tokens (total n) ++ ts) ≡ words ++ (value_text n ++ rest)
field words n ts rest is = ap (λ (z : List ℕ). words ++ z) (value_then n ts ∙ ap (λ (z : List ℕ). value_text n ++ z) is)

-- ---- pieces

-- a piece of words and what comes after them, before other pieces
piece : (p w t rest rest' : List ℕ) → p ≡ w ++ t → rest ≡ rest' → p ++ rest ≡ w ++ (t ++ rest')
piece p w t rest rest' is then = (λ i. is i ++ then i) ∙ append_assoc w t rest'

-- ten such pieces, and words at the end
module _ (t : ℕ → List ℕ) (counts : Counts) (a b c d e f g h i j z : List ℕ) (p1 p2 p3 p4 p5 p6 p7 p8 p9 p10 w : List ℕ) where
  pieces : p1 ≡ a ++ t counts.queries → p2 ≡ b ++ t counts.matched → p3 ≡ c ++ t counts.waiting → p4 ≡ d ++ t counts.rows → p5 ≡ e ++ t counts.entries → p6 ≡ f ++ t counts.unpublished → p7 ≡ g ++ t counts.since → p8 ≡ h ++ t counts.relations → p9 ≡ i ++ t counts.pool → p10 ≡ j ++ t counts.journal → w ≡ z
      → p1 ++ (p2 ++ (p3 ++ (p4 ++ (p5 ++ (p6 ++ (p7 ++ (p8 ++ (p9 ++ (p10 ++ (w ++ []))))))))))
      ≡ a ++ (t counts.queries ++ (b ++ (t counts.matched ++ (c ++ (t counts.waiting ++ (d ++ (t counts.rows ++ (e ++ (t counts.entries ++ (f ++ (t counts.unpublished ++ (g ++ (t counts.since ++ (h ++ (t counts.relations ++ (i ++ (t counts.pool ++ (j ++ (t counts.journal ++ (z))))))))))))))))))))
  pieces one two three four five six seven eight nine ten last =
      piece p1 a (t counts.queries) _ _ one (piece p2 b (t counts.matched) _ _ two (piece p3 c (t counts.waiting) _ _ three (piece p4 d (t counts.rows) _ _ four (piece p5 e (t counts.entries) _ _ five (piece p6 f (t counts.unpublished) _ _ six (piece p7 g (t counts.since) _ _ seven (piece p8 h (t counts.relations) _ _ eight (piece p9 i (t counts.pool) _ _ nine (piece p10 j (t counts.journal) _ _ ten (append-nil w ∙ last))))))))))

regroup : (x0 x1 x2 x3 x4 x5 x6 x7 x8 x9 x10 x11 x12 x13 x14 x15 x16 x17 x18 x19 x20 : List ℕ) → x0 ++ (x1 ++ (x2 ++ (x3 ++ (x4 ++ (x5 ++ (x6 ++ (x7 ++ (x8 ++ (x9 ++ (x10 ++ (x11 ++ (x12 ++ (x13 ++ (x14 ++ (x15 ++ (x16 ++ (x17 ++ (x18 ++ (x19 ++ (x20)))))))))))))))))))) ≡ (x0 ++ x1 ++ x2 ++ x3 ++ x4 ++ x5 ++ x6 ++ x7 ++ x8 ++ x9 ++ x10 ++ x11 ++ x12 ++ x13 ++ x14 ++ x15 ++ x16 ++ x17 ++ x18 ++ x19) ++ x20
regroup x0 x1 x2 x3 x4 x5 x6 x7 x8 x9 x10 x11 x12 x13 x14 x15 x16 x17 x18 x19 x20 = simp append_assoc

module _ (counts : Counts) (p1 p2 p3 p4 p5 p6 p7 p8 p9 p10 w : List ℕ) where
  pub line_pieces : p1 ≡ codes "queries " ++ decimal counts.queries → p2 ≡ codes " matched " ++ decimal counts.matched → p3 ≡ codes " waiting " ++ decimal counts.waiting → p4 ≡ codes " rows " ++ decimal counts.rows → p5 ≡ codes " entries " ++ decimal counts.entries → p6 ≡ codes " unpublished " ++ decimal counts.unpublished → p7 ≡ codes " since " ++ decimal counts.since → p8 ≡ codes " relations " ++ decimal counts.relations → p9 ≡ codes " limits " ++ decimal counts.pool → p10 ≡ codes " " ++ decimal counts.journal → w ≡ codes "\n"
      → p1 ++ (p2 ++ (p3 ++ (p4 ++ (p5 ++ (p6 ++ (p7 ++ (p8 ++ (p9 ++ (p10 ++ (w ++ [])))))))))) ≡ count_line counts
  line_pieces one two three four five six seven eight nine ten last =
      pieces decimal counts (codes "queries ") (codes " matched ") (codes " waiting ") (codes " rows ") (codes " entries ") (codes " unpublished ") (codes " since ") (codes " relations ") (codes " limits ") (codes " ") (codes "\n") p1 p2 p3 p4 p5 p6 p7 p8 p9 p10 w one two three four five six seven eight nine ten last
      ∙ regroup (codes "queries ") (decimal counts.queries) (codes " matched ") (decimal counts.matched) (codes " waiting ") (decimal counts.waiting) (codes " rows ") (decimal counts.rows) (codes " entries ") (decimal counts.entries) (codes " unpublished ") (decimal counts.unpublished) (codes " since ") (decimal counts.since) (codes " relations ") (decimal counts.relations) (codes " limits ") (decimal counts.pool) (codes " ") (decimal counts.journal) (codes "\n")

  pub member_pieces : p1 ≡ codes ",\"count\":{\"queries\":" ++ value_text counts.queries → p2 ≡ codes ",\"matched\":" ++ value_text counts.matched → p3 ≡ codes ",\"waiting\":" ++ value_text counts.waiting → p4 ≡ codes ",\"rows\":" ++ value_text counts.rows → p5 ≡ codes ",\"entries\":" ++ value_text counts.entries → p6 ≡ codes ",\"unpublished\":" ++ value_text counts.unpublished → p7 ≡ codes ",\"since\":" ++ value_text counts.since → p8 ≡ codes ",\"relations\":" ++ value_text counts.relations → p9 ≡ codes ",\"pool_limit\":" ++ value_text counts.pool → p10 ≡ codes ",\"journal_limit\":" ++ value_text counts.journal → w ≡ codes "}"
      → p1 ++ (p2 ++ (p3 ++ (p4 ++ (p5 ++ (p6 ++ (p7 ++ (p8 ++ (p9 ++ (p10 ++ (w ++ [])))))))))) ≡ member_text (codes "count", count_json counts)
  unfolding print_from escape_byte
  member_pieces one two three four five six seven eight nine ten last =
      let on10 : List Token = end_object ∷ [] in
      let on9 : List Token = key (codes "journal_limit") ∷ (json_tokens (total counts.journal) ++ on10) in
      let on8 : List Token = key (codes "pool_limit") ∷ (json_tokens (total counts.pool) ++ on9) in
      let on7 : List Token = key (codes "relations") ∷ (json_tokens (total counts.relations) ++ on8) in
      let on6 : List Token = key (codes "since") ∷ (json_tokens (total counts.since) ++ on7) in
      let on5 : List Token = key (codes "unpublished") ∷ (json_tokens (total counts.unpublished) ++ on6) in
      let on4 : List Token = key (codes "entries") ∷ (json_tokens (total counts.entries) ++ on5) in
      let on3 : List Token = key (codes "rows") ∷ (json_tokens (total counts.rows) ++ on4) in
      let on2 : List Token = key (codes "waiting") ∷ (json_tokens (total counts.waiting) ++ on3) in
      let on1 : List Token = key (codes "matched") ∷ (json_tokens (total counts.matched) ++ on2) in
      pieces value_text counts (codes ",\"count\":{\"queries\":") (codes ",\"matched\":") (codes ",\"waiting\":") (codes ",\"rows\":") (codes ",\"entries\":") (codes ",\"unpublished\":") (codes ",\"since\":") (codes ",\"relations\":") (codes ",\"pool_limit\":") (codes ",\"journal_limit\":") (codes "}") p1 p2 p3 p4 p5 p6 p7 p8 p9 p10 w one two three four five six seven eight nine ten last
      ∙ sym (field (codes ",\"count\":{\"queries\":") counts.queries on1 _
      (field (codes ",\"matched\":") counts.matched on2 _
      (field (codes ",\"waiting\":") counts.waiting on3 _
      (field (codes ",\"rows\":") counts.rows on4 _
      (field (codes ",\"entries\":") counts.entries on5 _
      (field (codes ",\"unpublished\":") counts.unpublished on6 _
      (field (codes ",\"since\":") counts.since on7 _
      (field (codes ",\"relations\":") counts.relations on8 _
      (field (codes ",\"pool_limit\":") counts.pool on9 _
      (field (codes ",\"journal_limit\":") counts.journal on10 (codes "}") refl))))))))))
