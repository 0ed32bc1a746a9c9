use Rattle.std.proofs.Common.{◌≡◌, ◌+◌, ◌++◌, ℕ, List, length, drop, ap, subst, arith}
use Rattle.std.specs.Prelude.{string_bytes}
use Rattle.std.specs.List.{flat_map, enumerate_from}
use Rattle.cq_atom.specs.Atom.{AtomRecord}
use Rattle.cq_atom.specs.declared.edge.Edge.{Edge}
use Rattle.cq_render.specs.Report.{count_line, provider_line, post_lines}
use Rattle.cq_render.proofs.Pieces.{numbers_at, nothing_left}
use Rattle.cq_render.proofs.Pages.{put_on, put_end}
use Rattle.cq_render.proofs.reporting.put_posts.Goals as goal

pub loop-post-preserved : goal.loop-post-preserved
loop-post-preserved g c =
    let k = c.loop-post.post in
    let pending = c.args.listing.now.board.now.pending in
    let number = c.args.shown.now.number in
    let posts = c.args.shown.now.query.now.posts in
    let has : length c.posts-post-end.result.now ≡ length posts = ap length c.posts-post-end.ensures.value in
    let f : ℕ → List ℕ = λ post. post_lines pending number post in
    let step = subst (λ (es : List Edge). string_bytes c.put_post.new.page ≡ string_bytes c.loop-post.page ++ (count_line k (length es) ++ flat_map (provider_line pending) es)) c.providers.ensures c.in_ok-put_post.ensures in
    put_on (string_bytes c.loop-post.page) (string_bytes c.put_post.new.page) (f k) _ (flat_map (λ (p : ℕ × AtomRecord). f p.0) (enumerate_from (k + 1) (drop (k + 1) posts))) _
    (numbers_at f posts k (omega arith)) c.loop-post.invariant step

pub returns : goal.returns
returns g c =
    let posts = c.args.shown.now.query.now.posts in
    let has : length c.posts-post-end.result.now ≡ length posts = ap length c.posts-post-end.ensures.value in
    let f = λ (post : ℕ × AtomRecord). post_lines c.args.listing.now.board.now.pending c.args.shown.now.number post.0 in
    put_end _ (flat_map f (enumerate_from c.loop-post.post (drop c.loop-post.post posts))) _ (ap (λ (ys : List AtomRecord). flat_map f (enumerate_from c.loop-post.post ys)) (nothing_left posts c.loop-post.post (omega arith))) c.loop-post.invariant
