-- The names under which no query is pending, reported line by line.
use Rattle.std.proofs.Common.{◌≡◌, ℕ, ◌+◌, ◌<◌, true, false, List, [], ◌∷◌, ◌++◌, length, map, take, get_or, refl, sym, ap, subst, ◌∙◌, append_assoc, append-nil, arith, Bool}
use Rattle.std.specs.Io.KnownBytes.{Keeps}
use Rattle.std.specs.Prelude.{not, Option, Some, None, IfSome}
use Rattle.std.specs.List.{flat_map}
use Rattle.std.specs.Option.{is_some}
use Rattle.std.proofs.lemmas.List.{map-append, take_more}
use Rattle.std.proofs.lemmas.List.Elements.{filter-append}
use Rattle.cq_board.specs.Pool.{PoolRecord}
use Rattle.cq_render.specs.Explain.{state_of}
use Rattle.cq_report.specs.Lines.{lines_of}
use Rattle.cq_report.specs.Reading.{Reading}
use Rattle.cq_report.specs.Output.{AreReadings, Left, left_after}
use Rattle.cq_why.specs.Why.{is_mark}
use Rattle.cq_cli.specs.declared.status.Status.TheVariants.{Done, NotSo}
use Rattle.cq_cli.specs.Explained.{absent_line, absent_lines, absent_names, status_of_absent}

none_of : (names : List (List ℕ)) → [] ≡ flat_map absent_line names → Done ≡ status_of_absent names
none_of [] none = refl
none_of (name ∷ names) none = absurd cc

some_of : (names : List (List ℕ)) (lines : List ℕ) → lines ≡ flat_map absent_line names → 0 < length lines → NotSo ≡ status_of_absent names
some_of [] lines is some = absurd (let none = ap length is in omega (arith, none, some))
some_of (name ∷ names) lines is some = refl

lines-append : (xs ys : List (List ℕ)) → flat_map absent_line (xs ++ ys) ≡ flat_map absent_line xs ++ flat_map absent_line ys
lines-append [] ys = refl
lines-append (x ∷ xs) ys = ap (λ (zs : List ℕ). absent_line x ++ zs) (lines-append xs ys) ∙ sym (append_assoc (absent_line x) (flat_map absent_line xs) (flat_map absent_line ys))

absent-append : (pool : PoolRecord) (xs ys : List (List ℕ)) → absent_lines pool (xs ++ ys) ≡ absent_lines pool xs ++ absent_lines pool ys
absent-append pool xs ys =
    ap (flat_map absent_line) (filter-append (λ name. not (is_some (state_of pool name))) xs ys)
    ∙ lines-append (absent_names pool xs) (absent_names pool ys)

-- one more name
pub absent_next : {X : Type 0} (pool : PoolRecord) (read : X → List ℕ) (xs : List X) (i : ℕ) (d : X) (before after : List ℕ) → i < length xs
    → before ≡ absent_lines pool (map read (take i xs)) → after ≡ before ++ absent_lines pool (read (get_or xs i d) ∷ []) → after ≡ absent_lines pool (map read (take (i + 1) xs))
absent_next {X} pool read xs i d before after low so_far is =
    let one = read (get_or xs i d) ∷ [] in
    let split : map read (take (i + 1) xs) ≡ map read (take i xs) ++ one = ap (map read) (take_more xs i d low) ∙ map-append read (take i xs) (get_or xs i d ∷ []) in
    is ∙ ap (λ (b : List ℕ). b ++ absent_lines pool one) so_far ∙ sym (absent-append pool (map read (take i xs)) one) ∙ ap (absent_lines pool) (sym split)

pub line_absent : (pool : PoolRecord) (name : List ℕ) → is_some (state_of pool name) ≡ false → absent_line name ≡ absent_lines pool (name ∷ [])
line_absent pool name f = rw f (sym (append-nil (absent_line name)))

pub line_present : (pool : PoolRecord) (name : List ℕ) → is_some (state_of pool name) ≡ true → [] ≡ absent_lines pool (name ∷ [])
line_present pool name t = rw t refl

-- there is no line where there is no such name
pub no_absent : (pool : PoolRecord) (names : List (List ℕ)) → [] ≡ absent_lines pool names → Done ≡ status_of_absent (absent_names pool names)
no_absent pool names none = none_of (absent_names pool names) none

pub some_absent : (pool : PoolRecord) (names : List (List ℕ)) (lines : List ℕ) → lines ≡ absent_lines pool names → 0 < length lines → NotSo ≡ status_of_absent (absent_names pool names)
some_absent pool names lines is some = some_of (absent_names pool names) lines is some

-- what is said of what was read is said of what the lines leave, however they are read, and of whether a byte order mark stood in front of them
pub left_over : (left mid : Option (List ℕ)) (marked : Bool) (script : Left) (Says : Bool → Left → Type 0) → Keeps left mid → IfSome left (λ input. marked ≡ is_mark [] input)
    → IfSome mid (λ input. (readings : List Reading) → AreReadings (lines_of input) readings → script ≡ left_after readings)
    → Says marked script → IfSome left (λ input. (readings : List Reading) → AreReadings (lines_of input) readings → Says (is_mark [] input) (left_after readings))
left_over None mid marked script Says kept is reads said = tt
left_over (Some input) None marked script Says kept is reads said = absurd kept
left_over (Some input) (Some rest) marked script Says kept is reads said = λ readings are.
    subst (λ (m : Bool). Says m (left_after readings)) is
    (subst (Says marked) (subst (λ (bytes : List ℕ). (rs : List Reading) → AreReadings (lines_of bytes) rs → script ≡ left_after rs) kept reads readings are) said)
