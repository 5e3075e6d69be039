use Rattle.std.proofs.Common.{ℕ, ◌<◌, ◌^◌, false, true, length, inl, inr, refl, subst, arith}
use Rattle.std.specs.Prelude.{Ok}
use Rattle.pac_index.specs.Callers.{seen_by}
use Rattle.pac_index.specs.CutScans.{ScanEnds}
use Rattle.pac_index.specs.Scanned.{AreScanned, HasScanned}
use Rattle.pac_index.specs.declared.scans.Scanned.{Scanned}
use Rattle.pac_index.proofs.Remaining.{has_step}
use Rattle.thread_rounds.proofs.Making.{scan-cut, scan-made, scan-told}
use Rattle.thread_rounds.proofs.answering.scan_reply.Goals.{In-Cut, In-Done}
use Rattle.thread_rounds.proofs.answering.scan_reply.Goals as goal

-- what the scan was answered, or what was before it was cut off
done-parts : (g : _) (c : In-Done g) → AreScanned c.args.from c.args.count false (seen_by c.args.caller.now) (seen_by c.scan_at.new.caller) c.in-Done.parts
done-parts g c = subst (λ (s : Scanned). HasScanned c.args.from c.args.count (seen_by c.args.caller.now) s (seen_by c.scan_at.new.caller)) c.in-Done.is c.in_ok-parts.ensures.done

cut-parts : (g : _) (c : In-Cut g) → AreScanned c.args.from c.args.count true (seen_by c.args.caller.now) (seen_by c.scan_at.new.caller) c.in-Cut.parts
cut-parts g c = subst (λ (s : Scanned). HasScanned c.args.from c.args.count (seen_by c.args.caller.now) s (seen_by c.scan_at.new.caller)) c.in-Cut.is c.in_ok-parts.ensures.done

pub returns-in-Done-clause-made : goal.returns-in-Done-clause-made
returns-in-Done-clause-made g c =
    let ends = subst (λ (s : Scanned). ScanEnds {E = ℕ} (Ok s) c.args.caller.now c.scan_at.new.caller) c.in-Done.is c.in_ok-parts.ensures.ends in
    scan-made c.args.limit c.args.from c.args.count c.args.caller.now c.scan_at.new.caller c.in-Done.parts c.requires.may.0.number c.in_ok-parts.ensures.reads ends.0 (done-parts g c)

pub returns-in-Done-clause-told : goal.returns-in-Done-clause-told
returns-in-Done-clause-told g c =
    let long : length c.in-Done.parts < 2 ^ 64 = search arith in
    (scan-told c.args.from c.args.count false (seen_by c.args.caller.now) (seen_by c.scan_at.new.caller) c.in-Done.parts (done-parts g c), long)

pub returns-in-Cut-clause-made : goal.returns-in-Cut-clause-made
returns-in-Cut-clause-made g c =
    let ends = subst (λ (s : Scanned). ScanEnds {E = ℕ} (Ok s) c.args.caller.now c.scan_at.new.caller) c.in-Cut.is c.in_ok-parts.ensures.ends in
    scan-cut c.args.limit c.args.from c.args.count c.args.caller.now c.scan_at.new.caller c.in-Cut.parts c.requires.may.0.number (has_step c.args.shared.now c.args.caller.now c.requires.may.0 c.requires.steps).2
    c.in_ok-parts.ensures.reads ends.0 (cut-parts g c)

pub returns-in-Cut-clause-told : goal.returns-in-Cut-clause-told
returns-in-Cut-clause-told g c =
    let long : length c.in-Cut.parts < 2 ^ 64 = search arith in
    (scan-told c.args.from c.args.count true (seen_by c.args.caller.now) (seen_by c.scan_at.new.caller) c.in-Cut.parts (cut-parts g c), long)

pub returns-in-Done-clause-ends : goal.returns-in-Done-clause-ends
returns-in-Done-clause-ends g c =
    let ends = subst (λ (s : Scanned). ScanEnds {E = ℕ} (Ok s) c.args.caller.now c.scan_at.new.caller) c.in-Done.is c.in_ok-parts.ensures.ends in
    inl (record { answered = refl; rests = ends.0; next = ends.1 })

pub returns-in-Cut-clause-ends : goal.returns-in-Cut-clause-ends
returns-in-Cut-clause-ends g c =
    let ends = subst (λ (s : Scanned). ScanEnds {E = ℕ} (Ok s) c.args.caller.now c.scan_at.new.caller) c.in-Cut.is c.in_ok-parts.ensures.ends in
    inr (record { begun = λ is. cc; spent = ends.0.spent })
