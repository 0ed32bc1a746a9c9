use Rattle.std.proofs.Common.{sym}
use Rattle.std.proofs.lemmas.List.{take_rest, nil_from_length}
use Rattle.std.proofs.lemmas.Bool.{eqb-true}
use Rattle.cq_text.proofs.Lexemes.{next_end, next_token, next_fault}
use Rattle.cq_text.proofs.reading.Reader.next.Goals as goal

pub returns-then-is_empty : goal.returns-then-is_empty
returns-then-is_empty g c =
    let h = simp take_rest at c.spaces_len-spaces.ensures.len in
    let w = simp take_rest at c.spaces_len-spaces.ensures.within in
    let e = simp take_rest at c.if-is_empty.ensures in
    rw (← c.self.view_is) (next_end c.self.inside.text.now c.self.inside.at c.spaces_len-spaces.result c.self.invariant h w (nil_from_length _ (eqb-true _ _ (sym e))))

pub returns-in-Some : goal.returns-in-Some
returns-in-Some g c =
    let h = simp take_rest at c.spaces_len-spaces.ensures.len in
    let w = simp take_rest at c.spaces_len-spaces.ensures.within in
    let e = simp take_rest at c.if-is_empty.ensures in
    let f = simp take_rest at c.in_ok-token.ensures.token in
    let n = simp take_rest at c.in_ok-token.ensures.within in
    rw (← c.self.view_is) (next_fault c.self.inside.text.now c.self.inside.at c.spaces_len-spaces.result _ c.in_ok-token.len _ h w (sym e) f n.0 n.1 (sym c.in-Some.ensures))

pub returns : goal.returns
returns g c =
    let h = simp take_rest at c.spaces_len-spaces.ensures.len in
    let w = simp take_rest at c.spaces_len-spaces.ensures.within in
    let e = simp take_rest at c.if-is_empty.ensures in
    let f = simp take_rest at c.in_ok-token.ensures.token in
    let n = simp take_rest at c.in_ok-token.ensures.within in
    rw (← c.self.view_is) (next_token c.self.inside.text.now c.self.inside.at c.spaces_len-spaces.result _ c.in_ok-token.len h w (sym e) f n.0 n.1 (sym c.in_default.ensures))
