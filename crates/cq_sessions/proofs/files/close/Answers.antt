use Rattle.std.proofs.Common.{◌++◌, map, drop, length, ap, subst, ◌∙◌}
use Rattle.std.specs.Prelude.{string_bytes, Result, Ok, Err, OnOk}
use Rattle.std.proofs.lemmas.List.Elements.{All-map, All-weaker}
use mathlib.Core.List.{IsPrefix}
use Rattle.cq_desk.specs.History.{edits_of}
use Rattle.cq_desk.specs.Replies.{journal_edits}
use Rattle.cq_room.proofs.CallerLemmas.{unrenewed_base}
use Rattle.cq_sessions.proofs.Clients.{prefix_journal}
use Rattle.cq_sessions.specs.Script.{entries_from}
use Rattle.cq_sessions.specs.Steps.Rooms.{AreTold, numbers_told}
use Rattle.cq_sessions.proofs.files.close.Goals as goal

pub returns : goal.returns
returns g c =
    let journal = c.close-desk.result.journal in
    let whole = c.journal.ensures.value ∙ ap (λ b. drop b journal) (unrenewed_base g.N.RoomName.renews c.close-desk.result.base (length journal) c.requires c.close-desk.ensures.base) in
    let numbers = numbers_told c.args.setup.now.numbers (map (λ sheet. sheet.numbers) c.args.sheets.now) in
    on_ok_both c.put_told-put.result
    (λ told e. record {
      journal = journal;
      begins = All-map (λ known. IsPrefix known (journal_edits journal)) (λ session. journal_edits (edits_of session.history)) c.args.sessions.items
          (All-weaker (λ session. IsPrefix (edits_of session.history) journal) (λ session. IsPrefix (journal_edits (edits_of session.history)) (journal_edits journal)) (λ session p. prefix_journal (edits_of session.history) journal p) c.args.sessions.items c.close-desk.ensures.seen);
      told = subst (λ z. AreTold z numbers) whole told;
      put = e ∙ ap (λ z. string_bytes c.args.page.now ++ entries_from 1 z) whole;
    }) c.put_told-put.ensures.told c.put_told-put.ensures.put
  where
    on_ok_both : {V E P Q R : Type 0} (r : Result V E) → (P → Q → R) → OnOk r P → OnOk r Q → OnOk r R
    on_ok_both (Ok v) more p q = more p q
    on_ok_both (Err e) more p q = tt
