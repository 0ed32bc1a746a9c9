use Rattle.std.proofs.Common.{◌≡◌, ◌+◌, Bool, true, false, List, [], ◌∷◌, ◌++◌, length, get_or, set, filter, count_by, sym, ap, ◌∙◌, arith, vec_capacity}
use Rattle.std.proofs.lemmas.List.{get_or_default}
use Rattle.cq_match.specs.declared.graph.Out.{Out}
use Rattle.cq_match.specs.declared.graph.Place.{Place}
use Rattle.cq_match.specs.Matcher.{MatcherRecord, is_apart}
use Rattle.cq_match.specs.Steps.Settle.{stands}
use Rattle.cq_match.specs.Steps.Kept.{free, place_at, count_at}
use Rattle.cq_match.proofs.Rows.{row}
use Rattle.cq_match.proofs.Bridge.{exact-is}
use Rattle.cq_match.proofs.Linking.{count-more, linked-kept}
use Rattle.cq_match.proofs.Coming.{out_of, ready, total-few, count-few, apart-linked}
use Rattle.cq_match.proofs.matcher.Matcher.link.Goals as goal

pub index-requires : goal.index-requires
index-requires g c =
    let i = c.self.inside in
    let places = i.graph.places.items in
    let e = c.args.edge in
    let k = c.self.invariant in
    let r = ready k c.args.node e c.args.self.now.nodes (ap (λ (m : MatcherRecord). m.nodes) c.self.view_is) c.requires.unable c.requires.touches c.requires.provider c.requires.waiter in
    let p = r.waiter_low in omega (arith, i.graph.places.ok.0)

pub index_mut-requires : goal.index_mut-requires
index_mut-requires g c =
    let i = c.self.inside in
    let places = i.graph.places.items in
    let e = c.args.edge in
    let k = c.self.invariant in
    let r = ready k c.args.node e c.args.self.now.nodes (ap (λ (m : MatcherRecord). m.nodes) c.self.view_is) c.requires.unable c.requires.touches c.requires.provider c.requires.waiter in
    let p = r.provider_low in let l = k.leaving_len in omega (arith, i.graph.leaving.ok.0)

pub index_mut-requires-2 : goal.index_mut-requires-2
index_mut-requires-2 g c =
    let i = c.self.inside in
    let places = i.graph.places.items in
    let e = c.args.edge in
    let k = c.self.invariant in
    let r = ready k c.args.node e c.args.self.now.nodes (ap (λ (m : MatcherRecord). m.nodes) c.self.view_is) c.requires.unable c.requires.touches c.requires.provider c.requires.waiter in
    let p = r.waiter_low in let l = k.totals_len in omega (arith, i.graph.totals.ok.0)

pub raise-requires-clause-within : goal.raise-requires-clause-within
raise-requires-clause-within g c =
    let i = c.self.inside in
    let places = i.graph.places.items in
    let e = c.args.edge in
    let k = c.self.invariant in
    let r = ready k c.args.node e c.args.self.now.nodes (ap (λ (m : MatcherRecord). m.nodes) c.self.view_is) c.requires.unable c.requires.touches c.requires.provider c.requires.waiter in
    let totals = i.graph.totals.items in
    let at : c.index_mut-2.result.now ≡ row totals e.waiter = c.index_mut-2.ensures.value ∙ get_or_default totals e.waiter c.index_mut-2.result.now [] (let l = k.totals_len in let p = r.waiter_low in omega arith) in
    let post : c.from.result ≡ e.post = c.from.ensures in
    let len = ap length at in let rows = k.totals_row e.waiter in let fits = r.fits in omega arith

pub raise-requires-clause-fits : goal.raise-requires-clause-fits
raise-requires-clause-fits g c =
    let i = c.self.inside in
    let places = i.graph.places.items in
    let e = c.args.edge in
    let k = c.self.invariant in
    let r = ready k c.args.node e c.args.self.now.nodes (ap (λ (m : MatcherRecord). m.nodes) c.self.view_is) c.requires.unable c.requires.touches c.requires.provider c.requires.waiter in
    let totals = i.graph.totals.items in
    let at : c.index_mut-2.result.now ≡ row totals e.waiter = c.index_mut-2.ensures.value ∙ get_or_default totals e.waiter c.index_mut-2.result.now [] (let l = k.totals_len in let p = r.waiter_low in omega arith) in
    let post : c.from.result ≡ e.post = c.from.ensures in
    let few = total-few k e.waiter e.post in
    let full = c.if-self.false in
    let fits = c.self.ranges.1.1.0.1 in
    rw (at, post) (omega (arith, few, full, fits))

pub index-requires-2 : goal.index-requires-2
index-requires-2 g c =
    let i = c.self.inside in
    let places = i.graph.places.items in
    let e = c.args.edge in
    let k = c.self.invariant in
    let r = ready k c.args.node e c.args.self.now.nodes (ap (λ (m : MatcherRecord). m.nodes) c.self.view_is) c.requires.unable c.requires.touches c.requires.provider c.requires.waiter in
    let p = r.provider_low in let l = k.settled.matched_len in let s = ap length k.settled.same in omega (arith, i.marks.raised.ok.0)

pub index_mut-requires-then-index : goal.index_mut-requires-then-index
index_mut-requires-then-index g c =
    let i = c.self.inside in
    let places = i.graph.places.items in
    let e = c.args.edge in
    let k = c.self.invariant in
    let r = ready k c.args.node e c.args.self.now.nodes (ap (λ (m : MatcherRecord). m.nodes) c.self.view_is) c.requires.unable c.requires.touches c.requires.provider c.requires.waiter in
    let p = r.waiter_low in let l = k.settled.counting.counts_len in omega (arith, i.marks.counts.ok.0)

pub raise-requires-then-index-clause-within : goal.raise-requires-then-index-clause-within
raise-requires-then-index-clause-within g c =
    let i = c.self.inside in
    let places = i.graph.places.items in
    let e = c.args.edge in
    let k = c.self.invariant in
    let r = ready k c.args.node e c.args.self.now.nodes (ap (λ (m : MatcherRecord). m.nodes) c.self.view_is) c.requires.unable c.requires.touches c.requires.provider c.requires.waiter in
    let counts = i.marks.counts.items in
    let at2 : c.index_mut-then-index.result.now ≡ row counts e.waiter = c.index_mut-then-index.ensures.value ∙ get_or_default counts e.waiter c.index_mut-then-index.result.now [] (let l = k.settled.counting.counts_len in let p = r.waiter_low in omega arith) in
    let post2 : c.from-then-index.result ≡ e.post = c.from-then-index.ensures in
    let len = ap length at2 in let rows = k.settled.counting.row_len e.waiter in let fits = r.fits in omega arith

pub raise-requires-then-index-clause-fits : goal.raise-requires-then-index-clause-fits
raise-requires-then-index-clause-fits g c =
    let i = c.self.inside in
    let places = i.graph.places.items in
    let e = c.args.edge in
    let k = c.self.invariant in
    let r = ready k c.args.node e c.args.self.now.nodes (ap (λ (m : MatcherRecord). m.nodes) c.self.view_is) c.requires.unable c.requires.touches c.requires.provider c.requires.waiter in
    let counts = i.marks.counts.items in
    let at2 : c.index_mut-then-index.result.now ≡ row counts e.waiter = c.index_mut-then-index.ensures.value ∙ get_or_default counts e.waiter c.index_mut-then-index.result.now [] (let l = k.settled.counting.counts_len in let p = r.waiter_low in omega arith) in
    let post2 : c.from-then-index.result ≡ e.post = c.from-then-index.ensures in
    let few = count-few k e.waiter e.post r.fits in
    let full = c.if-self.false in
    let fits = c.self.ranges.1.1.0.1 in
    rw (at2, post2) (omega (arith, few, full, fits))

kept-then : goal.invariant_of-self-then-index
kept-then g c =
    let i = c.self.inside in
    let places = i.graph.places.items in
    let e = c.args.edge in
    let k = c.self.invariant in
    let r = ready k c.args.node e c.args.self.now.nodes (ap (λ (m : MatcherRecord). m.nodes) c.self.view_is) c.requires.unable c.requires.touches c.requires.provider c.requires.waiter in
    let leaving = i.graph.leaving.items in
    let stamp : c.index.result.now ≡ place_at places e.waiter = c.index.ensures ∙ get_or_default places e.waiter c.index.result.now free r.waiter_low in
    let outs : c.index_mut.result.now ≡ get_or leaving e.provider [] = c.index_mut.ensures.value ∙ get_or_default leaving e.provider c.index_mut.result.now [] (let l = k.leaving_len in let p = r.provider_low in omega arith) in
    let put : c.push.new.self ≡ c.index_mut.result.now ++ (record { head = e.head; waiter = e.waiter; post = e.post; stamp = c.index.result.now.stamp }) ∷ [] = c.in_ok-push.ensures in
    let pushed : c.push.new.self ≡ get_or leaving e.provider [] ++ out_of places e ∷ [] =
    put ∙ ap (λ (os : List Out). os ++ (record { head = e.head; waiter = e.waiter; post = e.post; stamp = c.index.result.now.stamp }) ∷ []) outs
    ∙ ap (λ (q : Place). get_or leaving e.provider [] ++ (let out : Out = record { head = e.head; waiter = e.waiter; post = e.post; stamp = q.stamp } in out) ∷ []) stamp in
    let totals = i.graph.totals.items in
    let at : c.index_mut-2.result.now ≡ row totals e.waiter = c.index_mut-2.ensures.value ∙ get_or_default totals e.waiter c.index_mut-2.result.now [] (let l = k.totals_len in let p = r.waiter_low in omega arith) in
    let post : c.from.result ≡ e.post = c.from.ensures in
    let total : c.raise.new.self ≡ set (row totals e.waiter) e.post (count_at totals e.waiter e.post + 1) = rw (← at, ← post) c.raise.ensures in
    let counts = i.marks.counts.items in
    let at2 : c.index_mut-then-index.result.now ≡ row counts e.waiter = c.index_mut-then-index.ensures.value ∙ get_or_default counts e.waiter c.index_mut-then-index.result.now [] (let l = k.settled.counting.counts_len in let p = r.waiter_low in omega arith) in
    let post2 : c.from-then-index.result ≡ e.post = c.from-then-index.ensures in
    let count : c.raise-then-index.new.self ≡ set (row counts e.waiter) e.post (count_at counts e.waiter e.post + 1) = rw (← at2, ← post2) c.raise-then-index.ensures in
    let up : stands i.marks.raised.items e.provider ≡ true =
    ap (λ (b : Bool). b) (sym (c.index-2.ensures ∙ get_or_default i.marks.raised.items e.provider c.index-2.result.now false (let l = k.settled.matched_len in let s = ap length k.settled.same in let p = r.provider_low in omega arith))) ∙ c.if-index.true in
    let all = linked-kept places leaving e.provider c.args.node (out_of places e) (let l = k.leaving_len in let p = r.provider_low in omega arith) r.live r.fits i.next r.stamp r.unable r.touches r.from
    totals i.marks.matched.items i.marks.raised.items i.marks.counts.items i.marks.waiting.items i.marks.reached.items (vec_capacity i.marks.waiting) i.number k in
    rw (pushed, total, count) (rw up at all)

pub invariant_of-self-then-index : goal.invariant_of-self-then-index
invariant_of-self-then-index g c = kept-then g c

kept-else : goal.invariant_of-self-else-index
kept-else g c =
    let i = c.self.inside in
    let places = i.graph.places.items in
    let e = c.args.edge in
    let k = c.self.invariant in
    let r = ready k c.args.node e c.args.self.now.nodes (ap (λ (m : MatcherRecord). m.nodes) c.self.view_is) c.requires.unable c.requires.touches c.requires.provider c.requires.waiter in
    let leaving = i.graph.leaving.items in
    let stamp : c.index.result.now ≡ place_at places e.waiter = c.index.ensures ∙ get_or_default places e.waiter c.index.result.now free r.waiter_low in
    let outs : c.index_mut.result.now ≡ get_or leaving e.provider [] = c.index_mut.ensures.value ∙ get_or_default leaving e.provider c.index_mut.result.now [] (let l = k.leaving_len in let p = r.provider_low in omega arith) in
    let put : c.push.new.self ≡ c.index_mut.result.now ++ (record { head = e.head; waiter = e.waiter; post = e.post; stamp = c.index.result.now.stamp }) ∷ [] = c.in_ok-push.ensures in
    let pushed : c.push.new.self ≡ get_or leaving e.provider [] ++ out_of places e ∷ [] =
    put ∙ ap (λ (os : List Out). os ++ (record { head = e.head; waiter = e.waiter; post = e.post; stamp = c.index.result.now.stamp }) ∷ []) outs
    ∙ ap (λ (q : Place). get_or leaving e.provider [] ++ (let out : Out = record { head = e.head; waiter = e.waiter; post = e.post; stamp = q.stamp } in out) ∷ []) stamp in
    let totals = i.graph.totals.items in
    let at : c.index_mut-2.result.now ≡ row totals e.waiter = c.index_mut-2.ensures.value ∙ get_or_default totals e.waiter c.index_mut-2.result.now [] (let l = k.totals_len in let p = r.waiter_low in omega arith) in
    let post : c.from.result ≡ e.post = c.from.ensures in
    let total : c.raise.new.self ≡ set (row totals e.waiter) e.post (count_at totals e.waiter e.post + 1) = rw (← at, ← post) c.raise.ensures in
    let up : stands i.marks.raised.items e.provider ≡ false =
    ap (λ (b : Bool). b) (sym (c.index-2.ensures ∙ get_or_default i.marks.raised.items e.provider c.index-2.result.now false (let l = k.settled.matched_len in let s = ap length k.settled.same in let p = r.provider_low in omega arith))) ∙ c.if-index.false in
    let all = linked-kept places leaving e.provider c.args.node (out_of places e) (let l = k.leaving_len in let p = r.provider_low in omega arith) r.live r.fits i.next r.stamp r.unable r.touches r.from
    totals i.marks.matched.items i.marks.raised.items i.marks.counts.items i.marks.waiting.items i.marks.reached.items (vec_capacity i.marks.waiting) i.number k in
    rw (pushed, total) (rw up at all)

pub invariant_of-self-else-index : goal.invariant_of-self-else-index
invariant_of-self-else-index g c = kept-else g c

pub returns-then-index-clause-exact : goal.returns-then-index-clause-exact
returns-then-index-clause-exact g c =
    let i = c.self.inside in
    let e = c.args.edge in
    exact-is i.graph.places.items (set i.graph.leaving.items e.provider c.push.new.self) (set i.graph.totals.items e.waiter c.raise.new.self) i.marks.matched.items i.marks.raised.items (set i.marks.counts.items e.waiter c.raise-then-index.new.self)
    i.marks.waiting.items i.marks.reached.items (vec_capacity i.marks.waiting) (i.number + 1) i.next (kept-then g c)

pub returns-then-index-clause-edges : goal.returns-then-index-clause-edges
returns-then-index-clause-edges g c =
    let i = c.self.inside in
    let places = i.graph.places.items in
    let e = c.args.edge in
    let k = c.self.invariant in
    let r = ready k c.args.node e c.args.self.now.nodes (ap (λ (m : MatcherRecord). m.nodes) c.self.view_is) c.requires.unable c.requires.touches c.requires.provider c.requires.waiter in
    let leaving = i.graph.leaving.items in
    let stamp : c.index.result.now ≡ place_at places e.waiter = c.index.ensures ∙ get_or_default places e.waiter c.index.result.now free r.waiter_low in
    let outs : c.index_mut.result.now ≡ get_or leaving e.provider [] = c.index_mut.ensures.value ∙ get_or_default leaving e.provider c.index_mut.result.now [] (let l = k.leaving_len in let p = r.provider_low in omega arith) in
    let put : c.push.new.self ≡ c.index_mut.result.now ++ (record { head = e.head; waiter = e.waiter; post = e.post; stamp = c.index.result.now.stamp }) ∷ [] = c.in_ok-push.ensures in
    let pushed : c.push.new.self ≡ get_or leaving e.provider [] ++ out_of places e ∷ [] =
    put ∙ ap (λ (os : List Out). os ++ (record { head = e.head; waiter = e.waiter; post = e.post; stamp = c.index.result.now.stamp }) ∷ []) outs
    ∙ ap (λ (q : Place). get_or leaving e.provider [] ++ (let out : Out = record { head = e.head; waiter = e.waiter; post = e.post; stamp = q.stamp } in out) ∷ []) stamp in
    rw pushed (λ test.
    let more = count-more places leaving e.provider c.args.node (out_of places e) (let l = k.leaving_len in let p = r.provider_low in omega arith) r.live r.fits i.next r.stamp r.unable r.touches r.from test in
    let same = ap (λ (m : MatcherRecord). count_by test m.edges) c.self.view_is in
    omega arith)

pub returns-then-index-clause-apart : goal.returns-then-index-clause-apart
returns-then-index-clause-apart g c =
    let i = c.self.inside in
    let places = i.graph.places.items in
    let e = c.args.edge in
    let k = c.self.invariant in
    let r = ready k c.args.node e c.args.self.now.nodes (ap (λ (m : MatcherRecord). m.nodes) c.self.view_is) c.requires.unable c.requires.touches c.requires.provider c.requires.waiter in
    let leaving = i.graph.leaving.items in
    let stamp : c.index.result.now ≡ place_at places e.waiter = c.index.ensures ∙ get_or_default places e.waiter c.index.result.now free r.waiter_low in
    let outs : c.index_mut.result.now ≡ get_or leaving e.provider [] = c.index_mut.ensures.value ∙ get_or_default leaving e.provider c.index_mut.result.now [] (let l = k.leaving_len in let p = r.provider_low in omega arith) in
    let put : c.push.new.self ≡ c.index_mut.result.now ++ (record { head = e.head; waiter = e.waiter; post = e.post; stamp = c.index.result.now.stamp }) ∷ [] = c.in_ok-push.ensures in
    let pushed : c.push.new.self ≡ get_or leaving e.provider [] ++ out_of places e ∷ [] =
    put ∙ ap (λ (os : List Out). os ++ (record { head = e.head; waiter = e.waiter; post = e.post; stamp = c.index.result.now.stamp }) ∷ []) outs
    ∙ ap (λ (q : Place). get_or leaving e.provider [] ++ (let out : Out = record { head = e.head; waiter = e.waiter; post = e.post; stamp = q.stamp } in out) ∷ []) stamp in
    rw pushed (apart-linked places c.args.node leaving e.provider (out_of places e) r.live c.requires.touches) ∙ ap (λ (m : MatcherRecord). filter (is_apart c.args.node) m.edges) c.self.view_is

pub returns-else-index-clause-exact : goal.returns-else-index-clause-exact
returns-else-index-clause-exact g c =
    let i = c.self.inside in
    let e = c.args.edge in
    exact-is i.graph.places.items (set i.graph.leaving.items e.provider c.push.new.self) (set i.graph.totals.items e.waiter c.raise.new.self) i.marks.matched.items i.marks.raised.items i.marks.counts.items
    i.marks.waiting.items i.marks.reached.items (vec_capacity i.marks.waiting) (i.number + 1) i.next (kept-else g c)

pub returns-else-index-clause-edges : goal.returns-else-index-clause-edges
returns-else-index-clause-edges g c =
    let i = c.self.inside in
    let places = i.graph.places.items in
    let e = c.args.edge in
    let k = c.self.invariant in
    let r = ready k c.args.node e c.args.self.now.nodes (ap (λ (m : MatcherRecord). m.nodes) c.self.view_is) c.requires.unable c.requires.touches c.requires.provider c.requires.waiter in
    let leaving = i.graph.leaving.items in
    let stamp : c.index.result.now ≡ place_at places e.waiter = c.index.ensures ∙ get_or_default places e.waiter c.index.result.now free r.waiter_low in
    let outs : c.index_mut.result.now ≡ get_or leaving e.provider [] = c.index_mut.ensures.value ∙ get_or_default leaving e.provider c.index_mut.result.now [] (let l = k.leaving_len in let p = r.provider_low in omega arith) in
    let put : c.push.new.self ≡ c.index_mut.result.now ++ (record { head = e.head; waiter = e.waiter; post = e.post; stamp = c.index.result.now.stamp }) ∷ [] = c.in_ok-push.ensures in
    let pushed : c.push.new.self ≡ get_or leaving e.provider [] ++ out_of places e ∷ [] =
    put ∙ ap (λ (os : List Out). os ++ (record { head = e.head; waiter = e.waiter; post = e.post; stamp = c.index.result.now.stamp }) ∷ []) outs
    ∙ ap (λ (q : Place). get_or leaving e.provider [] ++ (let out : Out = record { head = e.head; waiter = e.waiter; post = e.post; stamp = q.stamp } in out) ∷ []) stamp in
    rw pushed (λ test.
    let more = count-more places leaving e.provider c.args.node (out_of places e) (let l = k.leaving_len in let p = r.provider_low in omega arith) r.live r.fits i.next r.stamp r.unable r.touches r.from test in
    let same = ap (λ (m : MatcherRecord). count_by test m.edges) c.self.view_is in
    omega arith)

pub returns-else-index-clause-apart : goal.returns-else-index-clause-apart
returns-else-index-clause-apart g c =
    let i = c.self.inside in
    let places = i.graph.places.items in
    let e = c.args.edge in
    let k = c.self.invariant in
    let r = ready k c.args.node e c.args.self.now.nodes (ap (λ (m : MatcherRecord). m.nodes) c.self.view_is) c.requires.unable c.requires.touches c.requires.provider c.requires.waiter in
    let leaving = i.graph.leaving.items in
    let stamp : c.index.result.now ≡ place_at places e.waiter = c.index.ensures ∙ get_or_default places e.waiter c.index.result.now free r.waiter_low in
    let outs : c.index_mut.result.now ≡ get_or leaving e.provider [] = c.index_mut.ensures.value ∙ get_or_default leaving e.provider c.index_mut.result.now [] (let l = k.leaving_len in let p = r.provider_low in omega arith) in
    let put : c.push.new.self ≡ c.index_mut.result.now ++ (record { head = e.head; waiter = e.waiter; post = e.post; stamp = c.index.result.now.stamp }) ∷ [] = c.in_ok-push.ensures in
    let pushed : c.push.new.self ≡ get_or leaving e.provider [] ++ out_of places e ∷ [] =
    put ∙ ap (λ (os : List Out). os ++ (record { head = e.head; waiter = e.waiter; post = e.post; stamp = c.index.result.now.stamp }) ∷ []) outs
    ∙ ap (λ (q : Place). get_or leaving e.provider [] ++ (let out : Out = record { head = e.head; waiter = e.waiter; post = e.post; stamp = q.stamp } in out) ∷ []) stamp in
    rw pushed (apart-linked places c.args.node leaving e.provider (out_of places e) r.live c.requires.touches) ∙ ap (λ (m : MatcherRecord). filter (is_apart c.args.node) m.edges) c.self.view_is
