-- Bytes put one after another.
use Rattle.std.proofs.Common.{◌≡◌, ℕ, ◌+◌, List, [], ◌++◌, Option, refl, sym, ap, ◌∙◌, append_assoc, append-nil, arith}
use Rattle.std.specs.Io.KnownBytes.{Appends}
use Rattle.std.proofs.KnownBytes.{Appends-trans, Appends-nil}
use Rattle.cq_report.specs.declared.output.Output.{Output}
use Rattle.cq_devices.specs.declared.stop.Stop.{Stop}
use Rattle.cq_devices.specs.declared.stop.Stop.TheVariants as faults
use Rattle.cq_devices.specs.Device.{TakesFront, write_failures_of}
use Rattle.cq_report.specs.Steps.Written.{Passes, Puts, Breaks}

pub Passes-nothing : (taken : Option (List ℕ)) (held : List ℕ) → Passes taken taken held [] held
Passes-nothing taken held = record { front = []; took = Appends-nil taken; whole = sym (append-nil held) }

pub Passes-then : (t0 t1 t2 : Option (List ℕ)) (h0 h1 h2 x y : List ℕ) → Passes t0 t1 h0 x h1 → Passes t1 t2 h1 y h2 → Passes t0 t2 h0 (x ++ y) h2
Passes-then t0 t1 t2 h0 h1 h2 x y p q = record {
  front = p.front ++ q.front;
  took = Appends-trans t0 t1 t2 p.front q.front p.took q.took;
  whole = append_assoc p.front q.front h2 ∙ ap (λ (l : List ℕ). p.front ++ l) q.whole ∙ sym (append_assoc p.front h1 y) ∙ ap (λ (l : List ℕ). l ++ y) p.whole ∙ append_assoc h0 x y;
}

-- a front of what comes after bytes that were put
pub Passes-front : (t0 t1 t2 : Option (List ℕ)) (h0 h1 x y : List ℕ) → Passes t0 t1 h0 x h1 → TakesFront t1 t2 (h1 ++ y) → TakesFront t0 t2 (h0 ++ (x ++ y))
Passes-front t0 t1 t2 h0 h1 x y p q = record {
  front = p.front ++ q.front;
  rest = q.rest;
  took = Appends-trans t0 t1 t2 p.front q.front p.took q.took;
  whole = append_assoc p.front q.front q.rest ∙ ap (λ (l : List ℕ). p.front ++ l) q.whole ∙ sym (append_assoc p.front h1 y) ∙ ap (λ (l : List ℕ). l ++ y) p.whole ∙ append_assoc h0 x y;
}

-- a front of bytes is one of these and more
pub TakesFront-more : (t0 t1 : Option (List ℕ)) (x y : List ℕ) → TakesFront t0 t1 x → TakesFront t0 t1 (x ++ y)
TakesFront-more t0 t1 x y p = record {
  front = p.front;
  rest = p.rest ++ y;
  took = p.took;
  whole = sym (append_assoc p.front p.rest y) ∙ ap (λ (l : List ℕ). l ++ y) p.whole;
}

-- all that waited was passed on, and then the bytes themselves
pub Passes-behind : (t0 t1 t2 : Option (List ℕ)) (h0 h1 x : List ℕ) → Passes t0 t1 h0 [] h1 → h1 ≡ [] → Appends t1 t2 x → Passes t0 t2 h0 x []
Passes-behind t0 t1 t2 h0 h1 x p none q = record {
  front = p.front ++ x;
  took = Appends-trans t0 t1 t2 p.front x p.took q;
  whole = append-nil (p.front ++ x) ∙ ap (λ (l : List ℕ). l ++ x) (sym (append-nil p.front) ∙ ap (λ (l : List ℕ). p.front ++ l) (sym none) ∙ p.whole ∙ append-nil h0);
}

-- what was put and waits in part, taken as a front
pub Passes-cut : (t0 t1 : Option (List ℕ)) (h0 h1 x : List ℕ) → Passes t0 t1 h0 x h1 → TakesFront t0 t1 (h0 ++ x)
Passes-cut t0 t1 h0 h1 x p = record { front = p.front; rest = h1; took = p.took; whole = p.whole }

module _ {W A : Type 0} (taken : W → Option (List ℕ)) (failures : W → ℕ) where
  pub Puts-nothing : (a : Output W A) → Puts taken failures a a []
  Puts-nothing a = record { writer = refl; failed = refl; passed = Passes-nothing (taken a.sink.now) a.held.now.items }

  pub Puts-then : (a b c : Output W A) (x y : List ℕ) → Puts taken failures a b x → Puts taken failures b c y → Puts taken failures a c (x ++ y)
  Puts-then a b c x y p q = record {
    writer = q.writer ∙ p.writer;
    failed = q.failed ∙ p.failed;
    passed = Passes-then _ _ _ _ _ _ x y p.passed q.passed;
  }

  pub Puts-breaks : (a b c : Output W A) (x y : List ℕ) (fault : Stop) → Puts taken failures a b x → Breaks taken failures b c y fault → Breaks taken failures a c (x ++ y) fault
  Puts-breaks a b c x y fault p q = record {
    writer = q.writer ∙ p.writer;
    failed = q.failed ∙ ap (λ (n : ℕ). n + write_failures_of fault) p.failed;
    took = Passes-front _ _ _ _ _ x y p.passed q.took;
  }

  pub Breaks-more : (a b : Output W A) (x y : List ℕ) (fault : Stop) → Breaks taken failures a b x fault → Breaks taken failures a b (x ++ y) fault
  Breaks-more a b x y fault p = record {
    writer = p.writer;
    failed = p.failed;
    took = rw (← append_assoc a.held.now.items x y) (TakesFront-more _ _ (a.held.now.items ++ x) y p.took);
  }

  -- a fault that is none of the writer's, after some bytes had been put
  pub Puts-cut : (a b : Output W A) (x y : List ℕ) (fault : Stop) → write_failures_of fault ≡ 0 → Puts taken failures a b x → Breaks taken failures a b (x ++ y) fault
  Puts-cut a b x y fault none p = record {
    writer = p.writer;
    failed = p.failed ∙ omega (arith, none);
    took = rw (← append_assoc a.held.now.items x y) (TakesFront-more _ _ (a.held.now.items ++ x) y (Passes-cut _ _ _ _ x p.passed));
  }

  -- memory ran out after some bytes had been put
  pub Puts-starved : (a b : Output W A) (x y : List ℕ) → Puts taken failures a b x → Breaks taken failures a b (x ++ y) faults.NoMemory
  Puts-starved a b x y p = Puts-cut a b x y faults.NoMemory refl p
