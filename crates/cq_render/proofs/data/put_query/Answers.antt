use Rattle.std.proofs.Common.{◌≡◌, ◌++◌, ◌∷◌, [], ℕ, List, map, subst}
use Rattle.std.specs.Prelude.{codes}
use Rattle.json.specs.Json as values
use Rattle.json.specs.Token.{begin_object, end_object, key, string}
use Rattle.json.specs.Tree.{json_tokens}
use Rattle.cq_atom.specs.Atom.{AtomRecord}
use Rattle.cq_atom.specs.Query.{variables_of}
use Rattle.cq_text.specs.Print.{printed_query}
use Rattle.cq_render.specs.Report.{state_word}
use Rattle.cq_render.specs.Json.{array_of, atom_json, posts_json, grounding_json}
use Rattle.cq_render.proofs.Pages.{put_both, put_then}
use Rattle.cq_render.proofs.data.put_query.Goals as goal

pub returns : goal.returns
returns g c =
    let shown = c.args.shown.now in
    let query = shown.query.now in
    let old = c.args.sheet.now in
    let heading_of = λ (name : List ℕ). begin_object ∷ key (codes "name") ∷ string name ∷ key (codes "state") ∷ string (state_word shown.matched) ∷ key (codes "text") ∷ string (printed_query query) ∷ [] in
    let heading = heading_of shown.name.now in
    let first = subst (λ (name : List ℕ). c.put_heading.new.sheet ≡ old ++ heading_of name) c.as_str-name.ensures.bytes c.in_ok-put_heading.ensures in
    let atoms_of = λ (word : List ℕ) (atoms : List AtomRecord). key word ∷ json_tokens (array_of (map atom_json atoms)) in
    let heads = atoms_of (codes "heads") query.heads in
    let body = atoms_of (codes "body") query.body in
    let posts = json_tokens (posts_json c.args.listing.now.board.now.pending shown.number query) in
    let found = key (codes "variables") ∷ (json_tokens (array_of (map values.string (variables_of query.body))) ++ key (codes "groundings") ∷ (json_tokens (array_of (map grounding_json shown.groundings.now)) ++ end_object ∷ [])) in
    let word = key (codes "postconditions") ∷ [] in
    let offered = subst (λ (atoms : List AtomRecord). c.put_atoms.new.sheet ≡ c.put_heading.new.sheet ++ atoms_of (codes "heads") atoms) c.heads.ensures.value c.in_ok-put_atoms.ensures in
    let read = subst (λ (atoms : List AtomRecord). c.put_atoms-2.new.sheet ≡ c.put_posts.new.sheet ++ atoms_of (codes "body") atoms) c.body.ensures.value c.in_ok-put_atoms-2.ensures in
    let last = body ++ found in
    let middle = (word ++ posts) ++ last in
    put_then old c.put_heading.new.sheet c.put_grounded.new.sheet heading (heads ++ middle) c.put_grounded.result first
    (put_then c.put_heading.new.sheet c.put_atoms.new.sheet c.put_grounded.new.sheet heads middle c.put_grounded.result offered
    (put_then c.put_atoms.new.sheet c.put_posts.new.sheet c.put_grounded.new.sheet (word ++ posts) last c.put_grounded.result
    (put_both c.put_atoms.new.sheet c.key.new.self c.put_posts.new.sheet word posts c.in_ok-key.ensures c.in_ok-put_posts.ensures)
    (put_then c.put_posts.new.sheet c.put_atoms-2.new.sheet c.put_grounded.new.sheet body found c.put_grounded.result read c.put_grounded.ensures)))
