use Rattle.std.proofs.Common.{◌≡◌, ◌+◌, ◌≤◌, ◌∷◌, ◌++◌, [], length, map, get_or, sym, ap, ◌∙◌, subst, arith}
use Rattle.pac_index.specs.declared.caller.Caller.{Caller}
use Rattle.pac_index.specs.CrashMeetings.{cut_of}
use Rattle.pac_index.proofs.Gathered.{cuts_more, take_all}
use Rattle.pac_index.proofs.crashing.all_cuts.Goals as goal

pub loop-number-preserved : goal.loop-number-preserved
loop-number-preserved c =
    let cs = c.args.callers.now in
    let n = c.loop-number.number in
    let d : Caller = get_or cs n c.index-callers-number.result in
    let inv = c.loop-number.invariant in
    let pushed = c.push_reserved.ensures in (
      pushed.items ∙ (λ k. inv.0 k ++ d.cut ∷ []) ∙ sym (cuts_more cs n d c.index-callers-number.result c.loop-number-test.true (λ k. d)),
      pushed.len ∙ ap (λ m. m + 1) inv.1,
      subst (λ m. length cs ≤ m) (sym pushed.capacity) inv.2,
    )

pub returns : goal.returns
returns c =
    let done : length c.args.callers.now ≡ c.loop-number.number = omega (arith, c.loop-number-test.false, c.loop-number.auto.number-end) in
    c.loop-number.invariant.0 ∙ ap (map cut_of) (take_all c.args.callers.now c.loop-number.number done)
