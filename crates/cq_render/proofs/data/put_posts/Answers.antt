use Rattle.std.proofs.Common.{◌≡◌, ◌+◌, ◌++◌, ℕ, List, length, drop, ap, subst, arith}
use Rattle.std.specs.List.{enumerate_from}
use Rattle.json.specs.Tree.{json_tokens}
use Rattle.cq_atom.specs.Atom.{AtomRecord}
use Rattle.cq_atom.specs.declared.edge.Edge.{Edge}
use Rattle.cq_match.specs.Graph.{edges_to}
use Rattle.cq_board.specs.Edges.{edges_of}
use Rattle.cq_render.specs.Json.{post_json}
use Rattle.cq_render.proofs.Pieces.{read_at, nothing_left}
use Rattle.cq_render.proofs.Arrays.{listed, listed_numbered, put_array}
use Rattle.cq_render.proofs.Pages.{put_on}
use Rattle.cq_render.proofs.data.put_posts.Goals as goal

pub loop-place-preserved : goal.loop-place-preserved
loop-place-preserved g c =
    let k = c.loop-place.place in
    let pending = c.args.listing.now.board.now.pending in
    let number = c.args.shown.now.number in
    let posts = c.args.shown.now.query.now.posts in
    let post = c.post-item.result in
    let f = λ (it : ℕ × AtomRecord). post_json pending it.1 (edges_to number it.0 (edges_of pending)) in
    let got = rw c.posts-post-items.ensures.value at (read_at c.posts-post-items.result.now k post c.loop-place-test.true c.post-item.is) in
    let step = subst (λ (es : List Edge). c.put_post.new.sheet ≡ c.loop-place.sheet ++ json_tokens (post_json pending post es)) c.providers-providers.ensures c.in_ok-put_post.ensures in
    put_on c.loop-place.sheet c.put_post.new.sheet (json_tokens (f (k, post))) _ (listed f (enumerate_from (k + 1) (drop (k + 1) posts))) _
    (listed_numbered f posts k post got) c.loop-place.invariant step

pub returns : goal.returns
returns g c =
    let pending = c.args.listing.now.board.now.pending in
    let posts = c.args.shown.now.query.now.posts in
    let has : length c.posts-post-items.result.now ≡ length posts = ap length c.posts-post-items.ensures.value in
    let f = λ (post : ℕ × AtomRecord). post_json pending post.1 (edges_to c.args.shown.now.number post.0 (edges_of pending)) in
    put_array _ _ c.loop-place.sheet c.end_array.new.self _ (listed f (enumerate_from c.loop-place.place (drop c.loop-place.place posts))) c.end_array.result
    c.in_ok-begin_array.ensures c.loop-place.invariant (ap (λ (ys : List AtomRecord). listed f (enumerate_from c.loop-place.place ys)) (nothing_left posts c.loop-place.place (omega arith))) c.end_array.ensures
