use Rattle.updater.proofs.Fewer.{landing_fewer, setting_fewer, unsetting_fewer}
use Rattle.updater.proofs.work.Work.advance.Goals as goal

pub returns-in-Landing-clause-fewer : goal.returns-in-Landing-clause-fewer
returns-in-Landing-clause-fewer c =
    landing_fewer c.args.self.now c.in-Landing.line c.in-Landing.entry c.in-Landing.floor c.args.got c.requires.0 c.in-Landing.is c.requires.1.fits

pub returns-in-Setting-clause-fewer : goal.returns-in-Setting-clause-fewer
returns-in-Setting-clause-fewer c =
    setting_fewer c.args.self.now c.in-Setting.line c.in-Setting.entry c.in-Setting.set c.args.got c.requires.0 c.in-Setting.is c.requires.1.fits

pub returns-in-Unsetting-clause-fewer : goal.returns-in-Unsetting-clause-fewer
returns-in-Unsetting-clause-fewer c =
    unsetting_fewer c.args.self.now c.in-Unsetting.line c.in-Unsetting.entry c.in-Unsetting.unset c.args.got c.requires.0 c.in-Unsetting.is c.requires.1.fits
