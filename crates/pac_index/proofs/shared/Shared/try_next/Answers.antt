use Rattle.std.proofs.Common.{sym, subst}
use Rattle.pac_index.specs.declared.writes.WriteNext.{WriteNext}
use Rattle.pac_index.specs.CutWrites.{NextSo}
use Rattle.pac_index.proofs.Writing.{next_so}
use Rattle.pac_index.proofs.shared.Shared.try_next.Goals as goal

pub returns-clause-next : goal.returns-clause-next
returns-clause-next g c =
    let b = c.args.caller.now in
    let a = c.try_at_pace-tried.new.caller in
    let on = c.try_at_pace-tried.ensures in
    subst (λ (n : WriteNext). NextSo c.args.call.now b n a) (sym c.next_of.ensures) (next_so c.args.call.now b a c.try_at_pace-tried.result on.tried on.spare)
