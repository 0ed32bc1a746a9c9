use Rattle.std.proofs.Common.{◌≤◌, length, refl, arith, vec_capacity}
use Rattle.cq_match.proofs.matcher.Matcher.copy.Goals as goal

pub invariant_of-result : goal.invariant_of-result
invariant_of-result g c =
    let i = c.self.inside in
    let k = c.self.invariant in
    let e = c.in_ok-graph.ensures in
    let m = c.in_ok-marks.ensures in
    let room : length i.graph.places.items ≤ vec_capacity c.in_ok-marks.marks.waiting = let len = c.len.ensures in let enough = m.roomy in omega (arith, i.graph.places.ok.0) in
    rw (e.places, e.leaving, e.totals, m.matched, m.raised, m.counts, m.none_waits, m.none_reached)
    (record {
      leaving_len = k.leaving_len;
      totals_len = k.totals_len;
      fit = k.fit;
      totals_row = k.totals_row;
      totaled = k.totaled;
      settled = k.settled;
      none_waits = refl;
      none_reached = refl;
      roomy = room;
      numbered = k.numbered;
      older = k.older;
      outs_older = k.outs_older;
      able_taken = k.able_taken;
      free_posts = k.free_posts;
      free_leaving = k.free_leaving;
    })
