use Rattle.std.proofs.Common.{◌≡◌, ℕ, ◌<◌, length, ◌∙◌, subst, arith}
use mathlib.Core.Option.{some}
use lib.ListN.{get_elem?}
use Rattle.pac_index.specs.declared.caller.Caller.{Caller}
use Rattle.pac_index.specs.Callers.{IsCallerOf}
use Rattle.pac_index.proofs.Rows.{read_stands, stands_within, stands_read}
use Rattle.thread_trial.proofs.crowd.all_play.Goals as goal

pub map_vec-requires-after_bounds : goal.map_vec-requires-after_bounds
map_vec-requires-after_bounds g c κs within i x less is = c.requires.each i x (read_stands c.args.callers.items i x less is)

-- as many come back
as_many : (g : _) (c : goal.In_ok-done g) → length c.in_ok-done.done.items ≡ length c.args.callers.items
as_many g c =
    let long = c.in_ok-done.ensures.len in
    omega (arith, long, c.in_ok-done.done.ok, c.args.callers.ok)

-- each is the one that stood there
comes_back : (g : _) (c : goal.In_ok-done g) (i : ℕ) (d : Caller) → get_elem? c.in_ok-done.done.items i ≡ some d → IsCallerOf c.args.shared.now d × (d.number ≡ i)
comes_back g c i d at =
    let within : i < length c.args.callers.items = subst (λ (n : ℕ). i < n) (as_many g c) (stands_within c.in_ok-done.done.items i d at) in
    let given = (c.in_ok-done.ensures.each i d within).1 in
    let read = stands_read c.in_ok-done.done.items i d at in
    let number = c.requires.numbers i given.job (read_stands c.args.callers.items i given.job within given.job_read) in
    subst (λ (e : Caller). IsCallerOf c.args.shared.now e × (e.number ≡ i)) read (given.call.met.0, given.call.met.1 ∙ number)

pub returns : goal.returns
returns g c = record {
  count = as_many g c;
  each = λ i d at. (comes_back g c i d at).0;
  numbers = λ i d at. (comes_back g c i d at).1;
}
