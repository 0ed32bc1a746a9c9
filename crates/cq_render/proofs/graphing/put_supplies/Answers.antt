use Rattle.std.proofs.Common.{◌≡◌, ◌+◌, ◌++◌, ℕ, List, length, drop, ap, subst, arith, Some}
use Rattle.std.specs.Prelude.{string_bytes}
use Rattle.std.specs.List.{flat_map, enumerate_from, slice_get}
use Rattle.cq_atom.specs.Atom.{AtomRecord}
use Rattle.cq_atom.specs.declared.edge.Edge.{Edge}
use Rattle.cq_match.specs.Graph.{edges_to}
use Rattle.cq_board.specs.Edges.{edges_of}
use Rattle.cq_render.specs.Graph.{supply}
use Rattle.cq_render.proofs.Pieces.{read_at, numbered_at, nothing_left}
use Rattle.cq_render.proofs.Pages.{put_on, put_end}
use Rattle.cq_render.proofs.graphing.put_supplies.Goals as goal

pub loop-post-preserved : goal.loop-post-preserved
loop-post-preserved g c =
    let k = c.loop-post.post in
    let number = c.args.shown.now.number in
    let edges = edges_of c.args.listing.now.board.now.pending in
    let posts = c.args.shown.now.query.now.posts in
    let items = c.posts-wanted-items.result.now in
    let wanted = c.wanted-item.result in
    let got : slice_get posts k ≡ Some wanted = subst (λ (ys : List AtomRecord). slice_get ys k ≡ Some wanted) c.posts-wanted-items.ensures.value (read_at items k wanted c.loop-post-test.true c.wanted-item.is) in
    let f = λ (post : ℕ × AtomRecord). supply number post (edges_to number post.0 edges) in
    let step = subst (λ (es : List Edge). string_bytes c.put_supply.new.page ≡ string_bytes c.loop-post.page ++ supply number (k, wanted) es) c.providers-providers.ensures c.in_ok-put_supply.ensures in
    put_on (string_bytes c.loop-post.page) (string_bytes c.put_supply.new.page) (f (k, wanted)) _ (flat_map f (enumerate_from (k + 1) (drop (k + 1) posts))) _
    (numbered_at f posts k wanted got) c.loop-post.invariant step

pub returns : goal.returns
returns g c =
    let number = c.args.shown.now.number in
    let posts = c.args.shown.now.query.now.posts in
    let has : length c.posts-wanted-items.result.now ≡ length posts = ap length c.posts-wanted-items.ensures.value in
    let f = λ (post : ℕ × AtomRecord). supply number post (edges_to number post.0 (edges_of c.args.listing.now.board.now.pending)) in
    put_end _ (flat_map f (enumerate_from c.loop-post.post (drop c.loop-post.post posts))) _ (ap (λ (ys : List AtomRecord). flat_map f (enumerate_from c.loop-post.post ys)) (nothing_left posts c.loop-post.post (omega arith))) c.loop-post.invariant
