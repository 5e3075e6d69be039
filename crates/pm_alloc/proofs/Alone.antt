-- What becomes of a row of words as a node is retired or released.
use Rattle.std.proofs.Common.{◌≡◌, ◌≢◌, ℕ, length, refl, sym, ap, ◌∙◌, arith}
use Rattle.std.proofs.lemmas.List.{length-set}
use Rattle.pm_words.specs.Codes.{free_status, gone_status}
use Rattle.pm_words.specs.Locations.{Location, Volatile, HasLocation, row_words, address_of}
use Rattle.pm_words.specs.Rows.{acted}
use Rattle.pm_words.proofs.Apart.{at-set_same, at-set_other}
use Rattle.pm_words.specs.Offsets.{stamp_offset, status_offset}
use Rattle.pm_alloc.specs.declared.gone.ReleaseAt.TheVariants.{Stamp}
use Rattle.pm_alloc.specs.Gone.{no_stamp, release_at_asks, RetiresAlone, ReleasesAlone}

status_is_no_stamp : (n : ℕ) → Volatile n status_offset ≢ Volatile n stamp_offset
status_is_no_stamp n e = let same : 0 ≡ 2 = ap offset_of e in two 0 same refl
  where
    offset_of : Location → ℕ
    offset_of (Volatile m o) = o
    offset_of _ = 0

    two : (k : ℕ) → k ≡ 2 → k ≡ 0 → ⊥
    two k is none = omega arith

pub retires_alone : RetiresAlone
retires_alone l n words row here = record {
  status = at-set_same l words (Volatile n status_offset) gone_status row.whole (here, omega arith);
  others = λ q has other. at-set_other l words (Volatile n status_offset) q gone_status (here, omega arith) has other;
}

pub releases_alone : ReleasesAlone
releases_alone l n words row here =
    let between = acted l words (release_at_asks l n Stamp) in
    let whole : length between ≡ row_words l = length-set words (address_of l (Volatile n stamp_offset)) no_stamp ∙ row.whole in
    let status : HasLocation l (Volatile n status_offset) = (here, omega arith) in
    let stamp : HasLocation l (Volatile n stamp_offset) = (here, omega arith) in
    record {
      status = at-set_same l between (Volatile n status_offset) free_status whole status;
      stamp = at-set_other l between (Volatile n status_offset) (Volatile n stamp_offset) free_status status stamp (λ e. status_is_no_stamp n (sym e)) ∙ at-set_same l words (Volatile n stamp_offset) no_stamp row.whole stamp;
      others = λ q has other other'. at-set_other l between (Volatile n status_offset) q free_status status has other ∙ at-set_other l words (Volatile n stamp_offset) q no_stamp stamp has other';
    }
