-- A journal whose limit bounds the entries since the last checkpoint.
use Rattle.std.proofs.Common.{◌≡◌, ℕ, ◌+◌, ◌≤◌, Bool, true, false, if◌then◌else◌, List, [], ◌∷◌, ◌++◌, length, take, Option, Some, None, IfSome, Result, Ok, Err, OnOk, OnErr, ap, sym, ◌∙◌, subst, arith, length-append}
use mathlib.Core.List.{IsPrefix}
use Rattle.cq_desk.specs.History.{History}
use Rattle.cq_desk.specs.Replies.{journal_edits, replies_at}
use Rattle.cq_desk.specs.declared.journal.Entry.{Entry}
use Rattle.cq_desk.specs.declared.reply.Reply.{Reply}
use Rattle.cq_room.specs.Receipts.{AreReplies, entered_before}
use Rattle.cq_room.proofs.Fronts.{prefix_self}

pub since_within : (renews : Bool) (b n : ℕ) → b ≤ (if renews then n else 0) → b ≤ n
since_within true b n p = p
since_within false b n p = omega (arith, p)

pub unrenewed_base : (renews : Bool) (b n : ℕ) → renews ≡ false → b ≤ (if renews then n else 0) → b ≡ 0
unrenewed_base true b n none p = absurd (cc none)
unrenewed_base false b n none p = omega (arith, p)

-- after more entries
pub since_on : (renews : Bool) (b c n m : ℕ) → c ≡ b → n ≤ m → b ≤ (if renews then n else 0) → c ≤ (if renews then m else 0)
since_on true b c n m same more p = omega (arith, same, more, p)
since_on false b c n m same more p = omega (arith, same, p)

-- after a checkpoint
pub since_all : (renews : Bool) (n : ℕ) → renews ≡ true → n ≤ (if renews then n else 0)
since_all renews n is = subst (λ b. n ≤ (if b then n else 0)) (sym is) (omega arith)

pub longer : {A : Type 0} (xs ys more : List A) → ys ≡ xs ++ more → length xs ≤ length ys
longer xs ys more is = omega (arith, ap length is, length-append xs more)

pub begins_as : {A : Type 0} (xs ys : List A) → xs ≡ ys → IsPrefix xs ys
begins_as xs ys is = subst (IsPrefix xs) is (prefix_self xs)

pub begins_more : {A : Type 0} (xs ys zs more : List A) → xs ≡ ys → zs ≡ ys ++ more → IsPrefix xs zs
begins_more xs ys zs more is on = (more, ap (λ z. z ++ more) is ∙ sym on)

pub on_either : {T F : Type 0} (r : Result T F) (A B P : Type 0) → OnOk r A → OnErr r B → (A → P) → (B → P) → P
on_either (Ok x) A B P ok err f g = f ok
on_either (Err e) A B P ok err f g = g err

pub on_ok : {T F : Type 0} (r : Result T F) (A P : Type 0) → (A → P) → OnOk r A → OnOk r P
on_ok (Ok x) A P f ok = f ok
on_ok (Err e) A P f ok = tt

pub on_err : {T F : Type 0} (r : Result T F) (B P : Type 0) → (B → P) → OnErr r B → OnErr r P
on_err (Ok x) B P g err = tt
on_err (Err e) B P g err = g err

module _ {E C W : Type 0} (after : C → E → C) (why : C → E → Option W) (os : List C) (limit : ℕ) where
  -- the replies of a desk are a room's
  pub replies_of : (renews : Bool) (o : C) (most base : ℕ) (before : List (Entry E)) (asked : List E) (rs : List (Reply W)) → o ∷ [] ≡ os → most ≡ limit → base ≤ (if renews then length before else 0)
      → rs ≡ replies_at after why o (base + most) (journal_edits before) (take (length rs) asked) → AreReplies after why os limit renews before asked rs
  replies_of renews o most base before asked rs opening same within is = (
    base,
    within,
    λ p named.
        let both : o ∷ [] ≡ p ∷ [] = opening ∙ named in let one : o ≡ p = cc both in
        is ∙ (ap (λ n. replies_at after why o (base + n) (journal_edits before) (take (length rs) asked)) same
        ∙ ap (λ q. replies_at after why q (base + limit) (journal_edits before) (take (length rs) asked)) one),
  )

  -- in a room whose owner makes no checkpoints, the limit bounds all entries
  module _ (before : List (Entry E)) (asked : List E) (rs : List (Reply W)) where
    abbrev Within : ℕ → Type 0
    Within most = (o : C) → os ≡ o ∷ [] → rs ≡ replies_at after why o most (journal_edits before) (take (length rs) asked)

    pub unrenewed : AreReplies after why os limit false before asked rs → (o : C) → os ≡ o ∷ [] → rs ≡ replies_at after why o limit (journal_edits before) (take (length rs) asked)
    unrenewed (since, within, is) = let same : since + limit ≡ limit = omega (arith, within) in subst Within same is

    pub unrenewed_back : ((o : C) → os ≡ o ∷ [] → rs ≡ replies_at after why o limit (journal_edits before) (take (length rs) asked)) → AreReplies after why os limit false before asked rs
    unrenewed_back is = let same : limit ≡ 0 + limit = omega arith in (0, omega arith, subst Within same is)

  pub front_unrenewed : (renews : Bool) (asked : List E) (front : Option (History (Entry E))) (rs : List (Reply W)) → renews ≡ false → IfSome front (λ f. AreReplies after why os limit renews (entered_before f asked rs) asked rs)
      → IfSome front (λ f. (o : C) → os ≡ o ∷ [] → rs ≡ replies_at after why o limit (journal_edits (entered_before f asked rs)) (take (length rs) asked))
  front_unrenewed renews asked None rs none replies = tt
  front_unrenewed renews asked (Some f) rs none replies = unrenewed (entered_before f asked rs) asked rs (subst (λ b. AreReplies after why os limit b (entered_before f asked rs) asked rs) none replies)
