-- Which fault of threads is reported, of what they left one after another.
use Rattle.std.proofs.Common.{◌≡◌, ℕ, zero, suc, ◌<◌, ◌≤◌, ◌⊎◌, inl, inr, List, [], ◌∷◌, ◌++◌, Option, Some, None, refl, sym, ap, subst, ◌∙◌, arith}
use Rattle.std.specs.Prelude.{Result, Ok, Err, IfSome}
use Rattle.std.specs.List.{Contains}
use Rattle.std.proofs.lemmas.Bool.{cases_order}
use Rattle.std.proofs.lemmas.List.Elements.{Contains-append_left, Contains-append_cases, Contains-push}
use Rattle.cq_sessions.specs.declared.fault.ServeFault.{ServeFault}
use Rattle.cq_sessions.specs.declared.fault.ServeFault.TheVariants as serves
use Rattle.cq_sessions.specs.Steps.Rooms.{rank, IsFaultOf, IsToldOf, IsFirstOf}

module _ {D : Type 0} (missing : Type 0) where
  none-left : (fault : ServeFault) → Contains {X = Result D ServeFault} [] (Err fault) → ⊥
  none-left fault (k, low, at) = omega (arith, low)

  pub first-missing : missing → IsFirstOf {D = D} missing [] (Some serves.Thread)
  first-missing gone = record {
    theirs = inr (gone, refl);
    first = λ other of. elim of [ inl there ↦ absurd (none-left other there) | inr that ↦ rw that.1 (omega arith) ];
  }

  pub first-none : (missing → ⊥) → IsFirstOf {D = D} missing [] None
  first-none all fault of = elim of [ inl there ↦ none-left fault there | inr that ↦ all that.0 ]

  one-alone : (x y : Result D ServeFault) → Contains (x ∷ []) y → x ≡ y
  one-alone x y (zero, low, at) = at
  one-alone x y (suc k, low, at) = absurd (omega (arith, low))

  earlier : (xs : List (Result D ServeFault)) (x : Result D ServeFault) (fault : ServeFault) → IsFaultOf missing xs fault → IsFaultOf missing (xs ++ x ∷ []) fault
  earlier xs x fault of = elim of [ inl there ↦ inl (Contains-append_left xs (x ∷ []) (Err fault) there) | inr that ↦ inr that ]

  later : (xs : List (Result D ServeFault)) (x : Result D ServeFault) (fault : ServeFault) → IsFaultOf missing (xs ++ x ∷ []) fault → IsFaultOf missing xs fault ⊎ (x ≡ Err fault)
  later xs x fault of = elim of [
    | inl there ↦ elim (Contains-append_cases xs (x ∷ []) (Err fault) there) [ inl front ↦ inl (inl front) | inr last ↦ inr (one-alone x (Err fault) last) ]
    | inr that ↦ inl (inr that)
  ]

  -- a thread that was served
  pub first-on : (xs : List (Result D ServeFault)) (x : Result D ServeFault) (done : D) (first : Option ServeFault) → x ≡ Ok done → IsFirstOf missing xs first → IsFirstOf missing (xs ++ x ∷ []) first
  first-on xs x done None is none = λ fault of. elim (later xs x fault of) [ inl front ↦ none fault front | inr last ↦ (let never : Ok done ≡ Err fault = sym is ∙ last in cc) ]
  first-on xs x done (Some f) is told = record {
    theirs = earlier xs x f told.theirs;
    first = λ other of. elim (later xs x other of) [ inl front ↦ told.first other front | inr last ↦ absurd (let never : Ok done ≡ Err other = sym is ∙ last in cc) ];
  }

  -- a thread that a fault ended
  pub first-or : (xs : List (Result D ServeFault)) (x : Result D ServeFault) (fault now : ServeFault) (first : Option ServeFault) → x ≡ Err fault → (now ≡ fault) ⊎ (first ≡ Some now) → rank now ≤ rank fault → IfSome first (λ f. rank now ≤ rank f) → IsFirstOf missing xs first
      → IsFirstOf missing (xs ++ x ∷ []) (Some now)
  first-or xs x fault now first is one this that before = record {
    theirs = elim one [
      | inl own ↦ inl (subst (Contains (xs ++ x ∷ [])) (is ∙ ap Err (sym own)) (Contains-push xs x))
      | inr other ↦ earlier xs x now (IsToldOf.theirs (subst (IsFirstOf missing xs) other before))
    ];
    first = λ other of. elim (later xs x other of) [
      | inl front ↦ least first other that before front
      | inr last ↦ (let same : fault ≡ other = cc (sym is ∙ last) in subst (λ (f : ServeFault). rank now ≤ rank f) same this)
    ];
  }
    where
      least : (first : Option ServeFault) (other : ServeFault) → IfSome first (λ f. rank now ≤ rank f) → IsFirstOf missing xs first → IsFaultOf missing xs other → rank now ≤ rank other
      least None other that before front = absurd (before other front)
      least (Some f) other that before front = let less = before.first other front in omega (arith, that, less)

-- where no fault is reported, no thread is missing
pub none-missing : {D : Type 0} (lefts : List (Result D ServeFault)) (a b : ℕ) → IsFirstOf (a < b) lefts None → b ≤ a
none-missing lefts a b none = elim (cases_order a b) [
  | inl same ↦ omega (arith, same)
  | inr apart ↦ elim apart [ inl low ↦ absurd (none serves.Thread (inr (low, refl))) | inr high ↦ omega (arith, high) ]
]
