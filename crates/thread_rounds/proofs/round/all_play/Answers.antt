use Rattle.std.proofs.Common.{◌≡◌, ◌<◌, length, ◌∙◌, sym, subst, arith}
use Rattle.std.specs.Prelude.{Ok, IfOk}
use Rattle.pac_index.specs.declared.caller.Caller.{Caller}
use Rattle.pac_index.proofs.Remaining.{unbounded_rests}
use Rattle.thread_rounds.specs.Played.{IsPlayedBy}
use Rattle.pac_index.proofs.Rows.{read_stands, stands_within, stands_read}
use Rattle.thread_rounds.proofs.round.all_play.Goals as goal

pub map_vec-requires-after_bounds : goal.map_vec-requires-after_bounds
map_vec-requires-after_bounds g c κs within i x less is =
    let stands = read_stands c.args.callers.items i x less is in
    let fresh = c.requires.new i x stands in
    (c.requires.callers.each i x stands, (record { seen = fresh.0; index = fresh.1; added = fresh.3; rests = unbounded_rests c.args.shared.now x (c.requires.callers.each i x stands) fresh.5; left = fresh.5 }, (c.requires.asked, (c.requires.limit, (record { shared = c.type_bounds.sync-R.shared }, record { shared = c.type_bounds.sync-G.shared })))))

as_many : (g : _) (c : goal.In_ok-played g) → length c.in_ok-played.played.items ≡ length c.args.callers.items
as_many g c =
    let long = c.in_ok-played.ensures.len in
    omega (arith, long, c.in_ok-played.played.ok, c.args.callers.ok)

pub returns : goal.returns
returns g c = record {
  count = as_many g c;
  each = λ i d p at there.
      let less : i < length c.args.callers.items = stands_within c.args.callers.items i d at in
      let given = (c.in_ok-played.ensures.each i (Ok p) less).1 in
      let job : given.job ≡ d = sym (given.job_is d) ∙ stands_read c.args.callers.items i d at in
      subst (λ (caller : Caller). IsPlayedBy c.args.shared.now c.args.plan.now caller p) job
      (subst (λ r. IfOk r (IsPlayedBy c.args.shared.now c.args.plan.now given.job)) (stands_read c.in_ok-played.played.items i (Ok p) there) given.call.met);
}
