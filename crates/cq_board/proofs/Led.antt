-- Edits that are accepted one after another, and what they leave.
use Rattle.std.proofs.Common.{◌≡◌, List, [], ◌∷◌, ◌++◌, refl, sym, ap, subst, ◌∙◌, Option, None}
use Rattle.std.specs.Prelude.{fold}
use Rattle.cq_desk.specs.Replies.{AreAccepted}

module _ {E C W : Type 0} (after : C → E → C) (why : C → E → Option W) where
  -- the edits are accepted, and leave this content
  pub record Leads (content : C) (edits : List E) (left : C) : Type 0 where
    pub accepted : AreAccepted after why content edits
    pub made : fold after content edits ≡ left

  pub leads_none : (content : C) → Leads content [] content
  leads_none content = record { accepted = tt; made = refl }

  -- an edit that is accepted, and then the others
  pub leads_step : (content next left : C) (e : E) (es : List E) → why content e ≡ None → after content e ≡ next → Leads next es left → Leads content (e ∷ es) left
  leads_step content next left e es free is h = record {
    accepted = (free, subst (λ (c : C). AreAccepted after why c es) (sym is) h.accepted);
    made = ap (λ (c : C). fold after c es) is ∙ h.made;
  }

  pub leads_append : (content next left : C) (es fs : List E) → Leads content es next → Leads next fs left → Leads content (es ++ fs) left
  leads_append content next left [] fs h k = subst (λ (c : C). Leads c fs left) (sym h.made) k
  leads_append content next left (e ∷ es) fs h k =
      leads_step content (after content e) left e (es ++ fs) h.accepted.0 refl
      (leads_append (after content e) next left es fs (record { accepted = h.accepted.1; made = h.made }) k)

  -- edits that lead on by way of a content lead to the same from there
  pub leads_rest : (content left : C) (es fs : List E) → Leads content (es ++ fs) left → Leads content es (fold after content es) × Leads (fold after content es) fs left
  leads_rest content left [] fs h = (leads_none content, h)
  leads_rest content left (e ∷ es) fs h =
      let more = leads_rest (after content e) left es fs (record { accepted = h.accepted.1; made = h.made }) in
      (record { accepted = (h.accepted.0, more.0.accepted); made = refl }, more.1)
