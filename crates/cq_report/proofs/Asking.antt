-- Replies to lines that ask.
use Rattle.std.proofs.Common.{◌≡◌, [], true, false, refl, sym, subst}
use Rattle.std.specs.Prelude.{codes}
use Rattle.json.specs.Json.{boolean}
use Rattle.json.specs.Print.{print_from}
use Rattle.cq_text.specs.declared.form.Form.{Form}
use Rattle.cq_ask.specs.declared.ask.AskKind.{AskKind}
use Rattle.cq_ask.specs.declared.ask.AskKind.TheVariants.{Count, Status, Query, Explain, Near, Choice, Choose, Groups, Changes, Graph, Json as AsJson, Dump, Find, Checkpoint, Help, Quit, Unfit}
use Rattle.cq_ask.specs.Ask.{AskRecord, is_quit}
use Rattle.cq_ask.specs.Answer.{FloorRecord, IsToldOf, ending, published_pool}
use Rattle.cq_ask.specs.Data.{IsMember, IsMemberOf}
use Rattle.cq_report.specs.declared.numbering.Numbering.{Numbering}
use Rattle.cq_report.specs.declared.numbering.Numbering.TheVariants.{Plain, Numbered, Json}
use Rattle.cq_report.specs.declared.outcome.Outcome.TheVariants as outcomes
use Rattle.cq_report.specs.Live.{IsAnswer, IsAskTold}
use Rattle.cq_report.specs.Steps.Turns.{plain_turn, turn_bytes}

is_quit_alone : (kind : AskKind) → is_quit kind ≡ true → kind ≡ Quit
is_quit_alone Quit is = refl
is_quit_alone Count is = absurd (let never : false ≡ true = is in cc)
is_quit_alone Status is = absurd (let never : false ≡ true = is in cc)
is_quit_alone Query is = absurd (let never : false ≡ true = is in cc)
is_quit_alone Explain is = absurd (let never : false ≡ true = is in cc)
is_quit_alone (Near post) is = absurd (let never : false ≡ true = is in cc)
is_quit_alone Choice is = absurd (let never : false ≡ true = is in cc)
is_quit_alone Choose is = absurd (let never : false ≡ true = is in cc)
is_quit_alone Groups is = absurd (let never : false ≡ true = is in cc)
is_quit_alone Changes is = absurd (let never : false ≡ true = is in cc)
is_quit_alone Graph is = absurd (let never : false ≡ true = is in cc)
is_quit_alone AsJson is = absurd (let never : false ≡ true = is in cc)
is_quit_alone Dump is = absurd (let never : false ≡ true = is in cc)
is_quit_alone (Find place) is = absurd (let never : false ≡ true = is in cc)
is_quit_alone Checkpoint is = absurd (let never : false ≡ true = is in cc)
is_quit_alone Help is = absurd (let never : false ≡ true = is in cc)
is_quit_alone Unfit is = absurd (let never : false ≡ true = is in cc)

module _ (form : Form) (floor : FloorRecord) (ask : AskRecord) where
  module _ (is : is_quit ask.kind ≡ true) where
    quit_as_member : IsMember form floor ask (codes ",\"quit\":true")
    unfolding print_from
    quit_as_member =
        let same : Quit ≡ ask.kind = sym (is_quit_alone ask.kind is) in
        ((codes "quit", boolean true), subst (λ (kind : AskKind). IsMemberOf form floor (published_pool floor) kind ask.names ask.text (codes "quit", boolean true)) same refl, refl)

    quit_as_lines : IsAnswer form floor ask []
    quit_as_lines =
        let same : Quit ≡ ask.kind = sym (is_quit_alone ask.kind is) in
        ([], subst (λ (kind : AskKind). IsToldOf form floor (published_pool floor) kind ask.names ask.text []) same refl, subst (λ (kind : AskKind). [] ≡ ending kind) same refl)

    -- the reply to `quit`
    pub quit_told : (numbering : Numbering) → IsAskTold form numbering floor ask (turn_bytes numbering (plain_turn outcomes.Quit))
    quit_told Plain = quit_as_lines
    quit_told Numbered = quit_as_lines
    quit_told Json = quit_as_member
