-- What a query gives, part by part.
use Rattle.std.proofs.Common.{◌≡◌, List, Result, Ok, subst}
use Rattle.std.specs.Result.{IsErrAnd}
use Rattle.cq_atom.specs.Atom.{AtomRecord}
use Rattle.cq_atom.specs.Query.{QueryRecord}
use Rattle.cq_text.specs.declared.fault.TextFault.{TextFault}
use Rattle.cq_text.specs.declared.form.Form.{Form}
use Rattle.cq_text.specs.declared.token.Close.TheVariants.{By, End}
use Rattle.cq_text.specs.declared.token.Sign.TheVariants.{OpenBrace, CloseBrace, Arrow}
use Rattle.cq_text.specs.Steps.Lexemes.{Ahead, Gives, Fails, sign_at}
use Rattle.cq_text.specs.Steps.Lists.{atoms_at, atoms_if_any_at, bound_query, query_at}
use Rattle.cq_text.proofs.Passed.{stops, goes_on}

module _ {X : Type 0} (view : X → QueryRecord) (r : Result X TextFault) (form : Form) (a : Ahead) where
  pub query_unopened : (e : TextFault) → IsErrAnd r (λ d. d ≡ e) → Fails e (sign_at OpenBrace a) → Gives view r (query_at form a)
  unfolding query_at
  query_unopened e is h = stops view r e (sign_at OpenBrace a) _ is h

  module _ (b : Ahead) (opened : sign_at OpenBrace a ≡ Ok b) where
    pub query_no_posts : (e : TextFault) → IsErrAnd r (λ d. d ≡ e) → Fails e (atoms_if_any_at form (By CloseBrace) b) → Gives view r (query_at form a)
    unfolding query_at
    query_no_posts e is h = goes_on view r (sign_at OpenBrace a) b _ opened (stops view r e (atoms_if_any_at form (By CloseBrace) b) _ is h)

    module _ (posts : List AtomRecord) (c : Ahead) (posted : atoms_if_any_at form (By CloseBrace) b ≡ Ok (posts, c)) where
      pub query_no_heads : (e : TextFault) → IsErrAnd r (λ d. d ≡ e) → Fails e (atoms_at form (By Arrow) c) → Gives view r (query_at form a)
      unfolding query_at
      query_no_heads e is h = goes_on view r (sign_at OpenBrace a) b _ opened (goes_on view r (atoms_if_any_at form (By CloseBrace) b) (posts, c) _ posted (stops view r e (atoms_at form (By Arrow) c) _ is h))

      module _ (heads : List AtomRecord) (d : Ahead) (headed : atoms_at form (By Arrow) c ≡ Ok (heads, d)) where
        pub query_no_body : (e : TextFault) → IsErrAnd r (λ d. d ≡ e) → Fails e (atoms_if_any_at form End d) → Gives view r (query_at form a)
        unfolding query_at
        query_no_body e is h =
            goes_on view r (sign_at OpenBrace a) b _ opened
            (goes_on view r (atoms_if_any_at form (By CloseBrace) b) (posts, c) _ posted (goes_on view r (atoms_at form (By Arrow) c) (heads, d) _ headed (stops view r e (atoms_if_any_at form End d) _ is h)))

        -- the reader of the same place finds what is unbound
        pub query_read : (body : List AtomRecord) (rest start : Ahead) → atoms_if_any_at form End d ≡ Ok (body, rest) → start ≡ b → Gives view r (bound_query posts heads body start) → Gives view r (query_at form a)
        unfolding query_at
        query_read body rest start bodied same h =
            let here : Gives view r (bound_query posts heads body b) = subst (λ (s : Ahead). Gives view r (bound_query posts heads body s)) same h in
            goes_on view r (sign_at OpenBrace a) b _ opened
            (goes_on view r (atoms_if_any_at form (By CloseBrace) b) (posts, c) _ posted (goes_on view r (atoms_at form (By Arrow) c) (heads, d) _ headed (goes_on view r (atoms_if_any_at form End d) (body, rest) _ bodied here)))
