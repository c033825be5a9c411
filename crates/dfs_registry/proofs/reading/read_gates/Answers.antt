use Rattle.std.proofs.Common.{◌≡◌, [], ◌∷◌, inl, inr, ◌+◌, List, ◌++◌, length, take, drop, sym, ◌∙◌, ap, subst, arith}
use Rattle.std.specs.Prelude.{IsErrOf}
use Rattle.std.proofs.lemmas.List.{length_push}
use Rattle.std.proofs.lemmas.Result.{err_from_is_err_and}
use Rattle.dfs_host.specs.Host.{bytes_of}
use Rattle.dfs_host.proofs.Causes.{none_yet}
use Rattle.dfs_registry.specs.declared.listed.Listed.{Listed}
use Rattle.dfs_registry.specs.declared.fault.RegFault.TheVariants.{NoMemory}
use Rattle.std.proofs.Common.{ℕ, nat_eq, false}
use Rattle.std.specs.List.{list_any}
use Rattle.dfs_registry.specs.Body.{repeats, lists_job}
use Rattle.dfs_registry.specs.Reading.{IsListing, IsBody, header, blocks, gate_of, damaged}
use Rattle.dfs_registry.specs.Seen.{HasJobs}
use Rattle.dfs_registry.specs.Opening.{FitsBody, EndsBehind, HoldsBody}
use Rattle.dfs_registry.proofs.Commit.{empty_listing, gate_low, listing_push, length-blocks-push}
use Rattle.dfs_registry.proofs.Bodies.{short_name}
use Rattle.dfs_host.proofs.Moments.{reads_nothing, reads_go_on, same_bytes}
use Rattle.dfs_registry.proofs.Following.{none_by_reg, no_error, at_file, ends, front_more, damaged_at, none_next, repeated_next, held, first_held}
use Rattle.dfs_registry.proofs.reading.read_gates.Goals as goal

pub loop-turn-init : goal.loop-turn-init
unfolding blocks
loop-turn-init g c = record {
  jobs = λ job. ap (λ (l : List ℕ). list_any (nat_eq job) l) c.new-jobs.ensures.empty ∙ sym (ap (λ (l : List Listed). lists_job l job) c.new-entries.ensures);
  is_list = subst IsListing (sym c.new-entries.ensures) empty_listing;
  place = ap gate_of (sym c.new-entries.ensures);
  count = ap length c.new-entries.ensures;
  front = λ tells. (c.requires tells).header ∙ ap (λ (l : List Listed). header ++ blocks l) (sym c.new-entries.ensures);
  only = reads_nothing _;
  no_fault = none_yet _;
}

pub returns-in-Closed-clause-ends : goal.returns-in-Closed-clause-ends
returns-in-Closed-clause-ends g c tells =
    let i = c.loop-turn.invariant in
    let start = bytes_of (g.H.Host.state c.args.host.now) 0 in
    subst (λ (l : List Listed). EndsBehind l start) (sym c.of.ensures.entries)
    (ends start c.loop-turn.entries.items c.loop-turn.gate (i.front tells) (at_file _ start c.loop-turn.gate _ _ (same_bytes i.only tells 0) c.in-Closed.is (c.in_ok-read_gate.ensures.gate (i.only.tells ∙ tells))))

pub overflow_add-body : goal.overflow_add-body
overflow_add-body g c = let low = gate_low _ _ c.loop-turn.invariant.is_list c.loop-turn.invariant.place in omega (arith, low)

pub returns-in-Broken-clause-damaged : goal.returns-in-Broken-clause-damaged
returns-in-Broken-clause-damaged g c tells place is =
    let i = c.loop-turn.invariant in
    let start = bytes_of (g.H.Host.state c.args.host.now) 0 in
    let broken = at_file _ start c.loop-turn.gate _ _ (same_bytes i.only tells 0) c.in-Broken.is (c.in_ok-read_gate.ensures.gate (i.only.tells ∙ tells)) in
    let here : c.loop-turn.gate + 1 ≡ place = cc in
    damaged_at start c.loop-turn.entries.items c.loop-turn.gate (i.front tells) (c.requires tells) i.is_list i.place broken.opened (inr (none_next _ _ broken.read)) ∙ ap damaged here

pub returns-in-Closed-clause-only : goal.returns-in-Closed-clause-only
returns-in-Closed-clause-only g c = reads_go_on c.loop-turn.invariant.only c.read_gate.ensures.only

pub returns-then-turn-eq-MOST-clause-damaged : goal.returns-then-turn-eq-MOST-clause-damaged
returns-then-turn-eq-MOST-clause-damaged g c tells place is =
    let i = c.loop-turn.invariant in
    let start = bytes_of (g.H.Host.state c.args.host.now) 0 in
    let opened = at_file _ start c.loop-turn.gate _ _ (same_bytes i.only tells 0) c.in-Open.is (c.in_ok-read_gate.ensures.gate (i.only.tells ∙ tells)) in
    let here : c.loop-turn.gate + 1 ≡ place = cc in
    damaged_at start c.loop-turn.entries.items c.loop-turn.gate (i.front tells) (c.requires tells) i.is_list i.place opened.opened
    (inl (omega (arith, i.count, c.if-turn-eq-MOST.true)))
    ∙ ap damaged here

pub returns-then-branch-clause-damaged : goal.returns-then-branch-clause-damaged
returns-then-branch-clause-damaged g c tells place is =
    let i = c.loop-turn.invariant in
    let start = bytes_of (g.H.Host.state c.args.host.now) 0 in
    let opened = at_file _ start c.loop-turn.gate _ _ (same_bytes i.only tells 0) c.in-Open.is (c.in_ok-read_gate.ensures.gate (i.only.tells ∙ tells)) in
    let here : c.loop-turn.gate + 1 ≡ place = cc in
    damaged_at start c.loop-turn.entries.items c.loop-turn.gate (i.front tells) (c.requires tells) i.is_list i.place opened.opened
    (inr (repeated_next _ _ _ opened.read (sym c.in_ok-repeats-in-Open.ensures.repeated ∙ c.if-branch.true)))
    ∙ ap damaged here

pub overflow_add-gate-in-Open : goal.overflow_add-gate-in-Open
overflow_add-gate-in-Open g c =
    let low = gate_low _ _ c.loop-turn.invariant.is_list c.loop-turn.invariant.place in
    let fits : IsBody c.in-Open.listed = subst FitsBody c.in-Open.is c.in_ok-read_gate.ensures.body in
    let short = short_name c.in-Open.listed fits.listable in
    omega (arith, low, short, ap length c.bytes.ensures.value)

pub loop-turn-preserved : goal.loop-turn-preserved
loop-turn-preserved g c =
    let i = c.loop-turn.invariant in
    let b = c.in-Open.listed in
    let bs = c.loop-turn.entries.items in
    let start = bytes_of (g.H.Host.state c.args.host.now) 0 in
    let items : c.push.new.self.items ≡ bs ++ b ∷ [] = c.in_ok-push-in-Open.ensures in
    let fits : IsBody b = subst FitsBody c.in-Open.is c.in_ok-read_gate.ensures.body in
    let new : repeats bs b ≡ false = sym c.in_ok-repeats-in-Open.ensures.repeated ∙ c.if-branch.false in
    let long = ap length c.bytes.ensures.value in
    record {
      jobs = subst (HasJobs c.repeats.new.jobs) (sym items) (c.in_ok-repeats-in-Open.ensures.jobs c.if-branch.false);
      is_list = subst IsListing (sym items) (listing_push bs b i.is_list fits new (omega (arith, i.count, c.if-turn-eq-MOST.false, i.is_list.few)));
      place = omega (arith, i.place, long, ap gate_of items, length-blocks-push bs b);
      count = omega (arith, i.count, ap length items, length_push bs b);
      front = λ tells.
          let opened = at_file _ start c.loop-turn.gate _ _ (same_bytes i.only tells 0) c.in-Open.is (c.in_ok-read_gate.ensures.gate (i.only.tells ∙ tells)) in
          ap (λ n. take (c.loop-turn.gate + (29 + n)) start) long ∙ front_more start bs c.loop-turn.gate (i.front tells) i.place b opened.spelled ∙ ap (λ (l : List Listed). header ++ blocks l) (sym items);
      only = reads_go_on i.only c.read_gate.ensures.only;
      no_fault = none_by_reg i.no_fault c.read_gate.ensures.cause (no_error c.in_ok-read_gate.was);
    }

pub returns-in_err-read_gate-clause-memory : goal.returns-in_err-read_gate-clause-memory
returns-in_err-read_gate-clause-memory g c tells none =
    let i = c.loop-turn.invariant in
    let start = bytes_of (g.H.Host.state c.args.host.now) 0 in
    let p = err_from_is_err_and c.from_residual.result c.from_residual.ensures.1 in
    let short : IsErrOf c.read_gate.result NoMemory = cc (none, c.in_err-read_gate.was, p.1, p.2) in
    let here = c.read_gate.ensures.memory (i.only.tells ∙ tells) short in
    first_held start c.loop-turn.entries.items c.loop-turn.gate (i.front tells) i.is_list i.place
    (subst (λ (l : List ℕ). HoldsBody (drop c.loop-turn.gate l)) (same_bytes i.only tells 0) here)

pub returns-in_err-repeats-in-Open-clause-memory : goal.returns-in_err-repeats-in-Open-clause-memory
returns-in_err-repeats-in-Open-clause-memory g c tells none =
    let i = c.loop-turn.invariant in
    let start = bytes_of (g.H.Host.state c.args.host.now) 0 in
    let opened = at_file _ start c.loop-turn.gate _ _ (same_bytes i.only tells 0) c.in-Open.is (c.in_ok-read_gate.ensures.gate (i.only.tells ∙ tells)) in
    first_held start c.loop-turn.entries.items c.loop-turn.gate (i.front tells) i.is_list i.place (held _ _ opened)

pub returns-in_err-push-in-Open-clause-memory : goal.returns-in_err-push-in-Open-clause-memory
returns-in_err-push-in-Open-clause-memory g c tells none =
    let i = c.loop-turn.invariant in
    let start = bytes_of (g.H.Host.state c.args.host.now) 0 in
    let opened = at_file _ start c.loop-turn.gate _ _ (same_bytes i.only tells 0) c.in-Open.is (c.in_ok-read_gate.ensures.gate (i.only.tells ∙ tells)) in
    first_held start c.loop-turn.entries.items c.loop-turn.gate (i.front tells) i.is_list i.place (held _ _ opened)

pub returns-then-branch-clause-only : goal.returns-then-branch-clause-only
returns-then-branch-clause-only g c = reads_go_on c.loop-turn.invariant.only c.read_gate.ensures.only

pub returns-in_err-push-in-Open-clause-only : goal.returns-in_err-push-in-Open-clause-only
returns-in_err-push-in-Open-clause-only g c = reads_go_on c.loop-turn.invariant.only c.read_gate.ensures.only
