use Rattle.std.proofs.Common.{rules, ◌≡◌, ◌-◌, ◌<◌, true, false, Option, length, inl, refl, sym, ap, subst, arith}
use Rattle.std.specs.Prelude.{IfSome}
use Rattle.std.specs.declared.alloc.AllocError.{AllocError}
use Rattle.cat_key.specs.Names.{IsName}
use Rattle.cat_history.specs.Scans.{is_below}
use Rattle.pac_index.specs.Callers.{seen_by}
use Rattle.pac_index.specs.Scanned.{AreScanned}
use Rattle.pac_index.proofs.Budgeting.{pays_nothing}
use Rattle.pac_index.proofs.Repeating.{back_trans, none_else}
use Rattle.pac_index.proofs.Scanning.{Scans, cut_behind, cut_here, ends_behind, scans_first, scans_more, scans_last, scans_cut, scans_end, part_on, part_read, to_come, one_to_come, fewer_to_come}
use Rattle.pac_index.proofs.shared.Shared.read_parts.Goals as goal

pub loop-next-init : goal.loop-next-init
loop-next-init g c = record {
  caller = c.requires.may.0;
  number = refl;
  index = refl;
  still = inl refl;
  over = λ none. absurd (cc);
  paid = pays_nothing c.args.caller.now.left (seen_by c.args.caller.now).taken;
  spare = omega arith;
  scans = scans_first c.args.from c.args.count (seen_by c.args.caller.now) _ c.new-parts.ensures.items;
}

-- the next part begins where this one ends
pub loop-next-smaller-then-left-gt0 : goal.loop-next-smaller-then-left-gt0
loop-next-smaller-then-left-gt0 g c =
    let low = c.in-Some.low in
    let part = c.in-Some-read.part in
    let read = (part_read _ c.in_ok-read.read part c.in-Some-read.is c.in_ok-read.ensures.part).part_of in
    let named : IsName low = search rules in
    let ends : IfSome part.high IsName = search rules in
    let above = subst (λ l. IfSome part.high (λ high. is_below l high ≡ true)) read.begins read.bounds in
    subst (λ (o : Option _). to_come part.high < to_come o) (sym c.in-Some.is) (fewer_to_come low part.high named ends above)

pub loop-next-preserved-then-left-gt0 : goal.loop-next-preserved-then-left-gt0
loop-next-preserved-then-left-gt0 g c =
    let old = c.args.caller.now in
    let on = c.in_ok-read.ensures in
    part_on AllocError c.args.self.now c.args.from c.args.count old c.loop-next.caller c.read_part.new.caller c.loop-next.next _ c.loop-next.left _ c.loop-next.parts.items _ c.in_ok-read.read c.in-Some-read.part c.in-Some.low c.loop-next.invariant c.in-Some.is c.in-Some-read.is on.stays on.index on.ends on.paid on.spare on.part
    (scans_more c.args.from c.args.count (seen_by old) (seen_by c.loop-next.caller) (seen_by c.read_part.new.caller) c.in-Some.low c.loop-next.left _ c.loop-next.parts.items _ c.in-Some-read.part on.reads (ap (λ ps. c.loop-next.left - length ps) c.as_slice.ensures) c.if-left-gt0.true c.in_ok-push.ensures.items)

-- no name is left
pub loop-next-smaller : goal.loop-next-smaller
loop-next-smaller g c =
    let low = c.in-Some.low in
    let named : IsName low = search rules in
    subst (λ (o : Option _). 0 < to_come o) (sym c.in-Some.is) (one_to_come low named)

pub loop-next-preserved : goal.loop-next-preserved
loop-next-preserved g c =
    let old = c.args.caller.now in
    let on = c.in_ok-read.ensures in
    part_on AllocError c.args.self.now c.args.from c.args.count old c.loop-next.caller c.read_part.new.caller c.loop-next.next _ c.loop-next.left _ c.loop-next.parts.items _ c.in_ok-read.read c.in-Some-read.part c.in-Some.low c.loop-next.invariant c.in-Some.is c.in-Some-read.is on.stays on.index on.ends on.paid on.spare on.part
    (scans_last c.args.from c.args.count (seen_by old) (seen_by c.loop-next.caller) (seen_by c.read_part.new.caller) c.in-Some.low c.loop-next.left _ c.loop-next.parts.items _ c.in-Some-read.part on.reads (ap (λ ps. c.loop-next.left - length ps) c.as_slice.ensures) c.if-left-gt0.false c.in_ok-push.ensures.items)

pub returns-clause-reads : goal.returns-clause-reads
returns-clause-reads g c = c.loop-next.invariant.scans.reads

pub returns-clause-parts : goal.returns-clause-parts
returns-clause-parts g c =
    let old = seen_by c.args.caller.now in
    let now = seen_by c.loop-next.caller in
    let done = subst (λ (o : Option _). Scans c.args.from c.args.count old now o c.loop-next.left c.loop-next.parts.items) (none_else c.loop-next.next c.in_default.not-Some) c.loop-next.invariant.scans in
    subst (AreScanned c.args.from c.args.count false old now) (sym c.of-2.ensures) (scans_end c.args.from c.args.count old now c.loop-next.left c.loop-next.parts.items done)

pub returns-clause-ends : goal.returns-clause-ends
returns-clause-ends g c = c.loop-next.invariant.over (none_else c.loop-next.next c.in_default.not-Some)

pub returns-in_err-read-clause-reads : goal.returns-in_err-read-clause-reads
returns-in_err-read-clause-reads g c = back_trans (seen_by c.args.caller.now) (seen_by c.loop-next.caller) (seen_by c.read_part.new.caller) c.loop-next.invariant.scans.reads c.read_part.ensures.reads

pub returns-in_err-push-clause-reads : goal.returns-in_err-push-clause-reads
returns-in_err-push-clause-reads g c = back_trans (seen_by c.args.caller.now) (seen_by c.loop-next.caller) (seen_by c.read_part.new.caller) c.loop-next.invariant.scans.reads c.read_part.ensures.reads

-- cut off within a part
pub returns-in_default-read : goal.returns-in_default-read
returns-in_default-read g c =
    let s = c.args.self.now in
    let old = c.args.caller.now in
    let b = c.loop-next.caller in
    let a = c.read_part.new.caller in
    let on = c.read_part.ensures in
    let so = ends_behind s c.args.from c.args.count old b a c.loop-next.next c.loop-next.left c.loop-next.parts.items c.loop-next.invariant on.stays on.index on.reads on.paid on.spare in
    let none = none_else c.in_ok-read.read c.in_default-read.not-Some in
    let so_far = subst (λ (o : Option _). Scans c.args.from c.args.count (seen_by old) (seen_by b) o c.loop-next.left c.loop-next.parts.items) c.in-Some.is c.loop-next.invariant.scans in
    record {
      stays = so.0;
      index = so.1;
      ends = cut_behind old b a c.loop-next.invariant.still c.loop-next.invariant.index (cut_here AllocError c.in_ok-read.read b a none c.in_ok-read.ensures.ends);
      reads = so.2;
      parts = subst (AreScanned c.args.from c.args.count true (seen_by old) (seen_by a)) (sym c.of.ensures) (scans_cut c.args.from c.args.count (seen_by old) (seen_by b) (seen_by a) c.in-Some.low c.loop-next.left c.loop-next.parts.items so_far on.reads);
      paid = so.3;
      spare = so.4;
    }

pub returns-clause-paid : goal.returns-clause-paid
returns-clause-paid g c = c.loop-next.invariant.paid
