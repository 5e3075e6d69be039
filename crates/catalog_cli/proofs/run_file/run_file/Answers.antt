use Rattle.std.proofs.Common.{refl, arith}
use Rattle.std.proofs.lemmas.Result.{err_from_is_err_and}
use Rattle.cat_text.proofs.OutsideLemmas.{steady-on}
use Rattle.catalog_cli.proofs.FileRuns.{kept-first, left-so, not-loaded, not-played-on, not-read-on, not-saved, not-saved-on, ran-on-file}
use Rattle.catalog_cli.proofs.run_file.run_file.Goals as goal

pub returns-in_err-played-clause-refused : goal.returns-in_err-played-clause-refused
returns-in_err-played-clause-refused g c =
    let p = err_from_is_err_and c.from_residual-in_err-played.result c.from_residual-in_err-played.ensures.1 in
    let read = c.in_ok-script.ensures.script in
    rw (p.1, p.2) (not-played-on _ _ _ read.0 c.in_ok-script.script c.in_ok-image.image _ _ _ _ c.in_err-played.field-0.0 read.1 read.2 c.in_ok-image.ensures.image
    (c.in_err-played.ensures.refused read.0 read.2))

pub returns-in_err-save_image-clause-files : goal.returns-in_err-save_image-clause-files
returns-in_err-save_image-clause-files g c =
    let p = err_from_is_err_and c.from_residual-in_err-save_image.result c.from_residual-in_err-save_image.ensures.1 in
    let read = c.in_ok-script.ensures.script in
    rw (p.1, p.2) (not-saved _ _ _ _ _ read.0 c.in_ok-played.played.text.items c.in_ok-image.image c.in_ok-played.played.image _ _ c.in_err-save_image.field-0.0 read.1 c.in_ok-image.ensures.image
    (c.in_ok-played.ensures.played read.0 read.2) c.load_image.ensures.keeps c.in_err-save_image.ensures.refused)

pub returns-clause-runs : goal.returns-clause-runs
returns-clause-runs g c =
    let read = c.in_ok-script.ensures.script in
    ran-on-file _ _ _ _ _ read.0 c.in_ok-played.played.text.items c.in_ok-image.image c.in_ok-played.played.image read.1 c.in_ok-image.ensures.image (c.in_ok-played.ensures.played read.0 read.2)
    c.load_image.ensures.keeps c.in_ok-save_image.ensures.saved

pub returns-in_err-script-clause-refused : goal.returns-in_err-script-clause-refused
returns-in_err-script-clause-refused g c = let p = err_from_is_err_and c.from_residual.result c.from_residual.ensures.1 in rw (p.1, p.2) (not-read-on _ _ _ _ _ _ _ c.in_err-script.field-0.0 c.in_err-script.ensures.refused)

pub returns-in_err-script-clause-files : goal.returns-in_err-script-clause-files
returns-in_err-script-clause-files g c = let p = err_from_is_err_and c.from_residual.result c.from_residual.ensures.1 in rw (p.1, p.2) (left-so _ _ _ _ c.in_err-script.field-0.0 (kept-first _))

pub returns-in_err-script-clause-read_before_refusal : goal.returns-in_err-script-clause-read_before_refusal
returns-in_err-script-clause-read_before_refusal g c = let p = err_from_is_err_and c.from_residual.result c.from_residual.ensures.1 in rw (p.1, p.2) c.in_err-script.ensures.read_before_refusal

pub returns-in_err-image-clause-refused : goal.returns-in_err-image-clause-refused
returns-in_err-image-clause-refused g c = let p = err_from_is_err_and c.from_residual-in_err-image.result c.from_residual-in_err-image.ensures.1 in rw (p.1, p.2) (not-loaded _ _ _ _ _ _ _ c.in_err-image.field-0.0 (c.in_ok-script.ensures.script.0, c.in_ok-script.script, c.in_ok-script.ensures.script.1, c.in_ok-script.ensures.script.2) c.in_err-image.ensures.refused)

pub returns-in_err-image-clause-files : goal.returns-in_err-image-clause-files
returns-in_err-image-clause-files g c = let p = err_from_is_err_and c.from_residual-in_err-image.result c.from_residual-in_err-image.ensures.1 in rw (p.1, p.2) (left-so _ _ _ _ c.in_err-image.field-0.0 c.load_image.ensures.keeps)

pub returns-in_err-image-clause-read_before_refusal : goal.returns-in_err-image-clause-read_before_refusal
returns-in_err-image-clause-read_before_refusal g c = let p = err_from_is_err_and c.from_residual-in_err-image.result c.from_residual-in_err-image.ensures.1 in rw (p.1, p.2) (λ _. c.in_ok-script.ensures.read_to_end)

pub returns-in_err-played-clause-files : goal.returns-in_err-played-clause-files
returns-in_err-played-clause-files g c = let p = err_from_is_err_and c.from_residual-in_err-played.result c.from_residual-in_err-played.ensures.1 in rw (p.1, p.2) (left-so _ _ _ _ c.in_err-played.field-0.0 c.load_image.ensures.keeps)

pub returns-in_err-played-clause-read_before_refusal : goal.returns-in_err-played-clause-read_before_refusal
returns-in_err-played-clause-read_before_refusal g c = let p = err_from_is_err_and c.from_residual-in_err-played.result c.from_residual-in_err-played.ensures.1 in rw (p.1, p.2) (λ _. c.in_ok-script.ensures.read_to_end)

pub returns-in_err-save_image-clause-refused : goal.returns-in_err-save_image-clause-refused
returns-in_err-save_image-clause-refused g c = let p = err_from_is_err_and c.from_residual-in_err-save_image.result c.from_residual-in_err-save_image.ensures.1 in rw (p.1, p.2) (not-saved-on _ _ _ _ _ _ _ _ _ _ _ c.in_err-save_image.field-0.0 (c.in_ok-script.ensures.script.0, c.in_ok-script.script, c.in_ok-script.ensures.script.1, c.in_ok-script.ensures.script.2) c.load_image.ensures.never_falls c.in_err-save_image.ensures.refused)

pub returns-in_err-save_image-clause-read_before_refusal : goal.returns-in_err-save_image-clause-read_before_refusal
returns-in_err-save_image-clause-read_before_refusal g c = let p = err_from_is_err_and c.from_residual-in_err-save_image.result c.from_residual-in_err-save_image.ensures.1 in rw (p.1, p.2) (λ _. c.in_ok-script.ensures.read_to_end)

pub returns-in_err-save_image-clause-shelf_never_falls : goal.returns-in_err-save_image-clause-shelf_never_falls
returns-in_err-save_image-clause-shelf_never_falls g c = omega (arith, c.load_image.ensures.never_falls, c.save_image.ensures.never_falls)

pub returns-in_err-save_image-clause-shelf_stays_steady : goal.returns-in_err-save_image-clause-shelf_stays_steady
returns-in_err-save_image-clause-shelf_stays_steady g c = steady-on _ _ _ _ _ _ c.load_image.ensures.stays_steady c.save_image.ensures.stays_steady

pub returns-clause-shelf_never_falls : goal.returns-clause-shelf_never_falls
returns-clause-shelf_never_falls g c = omega (arith, c.load_image.ensures.never_falls, c.save_image.ensures.never_falls)

pub returns-clause-shelf_stays_steady : goal.returns-clause-shelf_stays_steady
returns-clause-shelf_stays_steady g c = steady-on _ _ _ _ _ _ c.load_image.ensures.stays_steady c.save_image.ensures.stays_steady

pub returns-clause-read_to_end : goal.returns-clause-read_to_end
returns-clause-read_to_end g c = c.in_ok-script.ensures.read_to_end
