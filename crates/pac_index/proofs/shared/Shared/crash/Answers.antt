use Rattle.std.proofs.Common.{◌≡◌, map, ap, ◌∙◌}
use Rattle.std.specs.Mem.Slots.{slots_items}
use Rattle.pm_words.specs.Images.{Row}
use Rattle.pm_words.specs.Locations.{image_words}
use Rattle.pm_words.specs.Rows.{durable_row}
use Rattle.index_core.specs.CrashLaws.{evicted_by}
use Rattle.pac_index.specs.CrashMeetings.{cut_of}
use Rattle.pac_index.proofs.Closing.{final_of}
use Rattle.pac_index.proofs.Crashes.{IsHeld, crash_of, holds, meets_so}
use Rattle.pac_index.proofs.shared.Shared.crash.Goals as goal

pub returns : goal.returns
returns c =
    let s = c.args.self in
    let callers = c.args.callers.items in
    let seed = c.args.seed in
    let seat = c.gathered-seat.result in
    let words = slots_items c.close_with-closed.result.words in
    let slots = slots_items c.close_with-closed.result.slots in
    let z : IsHeld s callers words = holds s callers seat.id words slots c.requires.callers (final_of s callers seat.id seat.me words slots c.gathered-seat.ensures.all c.close_with-closed.ensures.values.2) in
    let made : c.of_words-memory.result ≡ record { layout = s.about.layout; words = words } = c.of_words-memory.ensures ∙ (λ k. record { layout = s.about.layout; words = c.in_ok-words.ensures k }) in
    let leaves =
    c.crash-image.ensures
    ∙ ap (λ (r : Row). record { layout = r.layout; words = durable_row r.layout r.words }) c.evict_chosen.ensures
    ∙ ap (λ (r : Row). record { layout = r.layout; words = durable_row r.layout (evicted_by r.layout seed (image_words r.layout) r.words) }) made in
    record {
      meeting = meets_so s callers words seed (record { image = c.crash-image.result; cuts = c.in_ok-cuts.cuts }) (λ i d at. (c.requires.callers.each i d at).tells) z (c.in_ok-cuts.ensures ∙ ap (map cut_of) c.as_slice.ensures.value) leaves;
      leaves = crash_of s callers words seed c.crash-image.result z leaves;
    }
