-- A lone part that its node's permutation serves.
use Rattle.std.proofs.Common.{◌≡◌, ℕ, List, length, refl, sym, ◌∙◌, subst, ap}
use Rattle.std.proofs.lemmas.List.{set-get_or}
use Rattle.pm_words.specs.declared.layout.Layout.{Layout}
use Rattle.pm_words.specs.declared.machine.Turn.TheVariants.{Done}
use Rattle.pm_words.specs.Rows.{acted}
use Rattle.pm_words.specs.Offsets.{version_offset}
use Rattle.data_node.specs.Lists.{target_from, key_of}
use Rattle.call_stages.specs.declared.once.Once.TheVariants as once
use Rattle.index_law.specs.Facts.{version_in, list_in}
use Rattle.node_ops.specs.permutation_law.specs.Permuted.{made_at}
use Rattle.node_ops.specs.declared.call.Call.{Call}
use Rattle.node_ops.specs.declared.lookup.LookupAt.{LookupAt}
use Rattle.node_ops.specs.declared.part.Part.{Part}
use Rattle.node_ops.specs.declared.part.Part.TheVariants as part
use Rattle.node_ops.specs.declared.part.PartWords.{PartWords}
use Rattle.node_ops.specs.declared.part.Reading.{Reading}
use Rattle.node_ops.specs.declared.part.ReadingAt.TheVariants as reading_at
use Rattle.node_ops.specs.declared.part.Way.{Way}
use Rattle.node_ops.specs.declared.part.Way.TheVariants as ways
use Rattle.node_ops.specs.declared.running.Running.TheVariants.{Parting}
use Rattle.node_ops.specs.Asked.{name_asked}
use Rattle.node_ops.specs.Calls.{name_in, call_address}
use Rattle.node_ops.specs.PartSteps.{IsFreely, IsPart, IsWalkingAt, compared_by, order_in, part_asks}
use Rattle.node_ops.specs.PartSteps.{part_call, part_turned}
use Rattle.node_ops.proofs.PartTelling.{ends_reading, done_words}
use Rattle.node_ops.proofs.PartWalks.{walking_is}
use Rattle.lone_call_law.specs.There.{IsAtNode, LookupStands}
use Rattle.lone_call_law.specs.LoneCalls.{IsMadeNow, WayIsThere, PartIsThere, LonePartsAreServed}
use Rattle.lone_call_law.proofs.LoneCalls.{of_name}

walking_still : (l : Layout) (words0 words : List ℕ) (call : Call) (at : LookupAt) → IsWalkingAt at → LookupStands l words0 words call at → words ≡ words0
walking_still l words0 words call = walking_is (λ (at : LookupAt). LookupStands l words0 words call at → words ≡ words0) (λ floor stands. stands.0) (λ walk stands. stands.0)

module _ (l : Layout) (words0 words name : List ℕ) (fresh : made_at l words0 (target_from 0 (list_in l words0) (key_of name)) ≡ version_in l words0 (target_from 0 (list_in l words0) (key_of name))) where
  -- the permutation of the call's node is of its version word
  has_order : (call : Call) → name_in call ≡ name → IsAtNode l words0 call → ¬ IsMadeNow l words0 call → ⊥
  has_order call named here lacks =
      lacks (subst (λ (n : ℕ). made_at l words0 n ≡ version_in l words0 n) (sym (here.node ∙ ap (λ (ns : List ℕ). target_from 0 (list_in l words0) (key_of ns)) named)) fresh)

  way_still : (way : Way) (call : Call) (word : ℕ) → name_in call ≡ name → WayIsThere l words0 words call word way → words ≡ words0
  way_still (ways.Served order) call word named stands = stands.0.1
  way_still (ways.Held made) call word named stands = absurd (has_order call named stands.0.0 stands.1)
  way_still ways.Alone call word named stands = stands.0.1

  still : (machine : Part) → IsPart machine → name_in (part_call machine) ≡ name → PartIsThere l words0 words machine → words ≡ words0
  still (part.Looking lookup count) sound named stands = walking_still l words0 words lookup.call lookup.at sound.2 stands
  still (part.Ordering call seen count load) sound named stands = stands.0.1
  still (part.Locking call seen count locked) sound named stands = stands.0.1
  still (part.Dating call seen count way) sound named stands = way_still way call seen.version named stands
  still (part.Reading reading) sound named stands = way_still reading.way reading.call reading.hold.locked named stands

  -- it takes no lock, and goes by the permutation
  way_free : (way : Way) (call : Call) (word names : ℕ) → name_in call ≡ name → WayIsThere l words0 words call word way → IsFreely way × (compared_by way names ≡ 0)
  way_free (ways.Served order) call word names named stands = (tt, refl)
  way_free (ways.Held made) call word names named stands = absurd (has_order call named stands.0.0 stands.1)
  way_free ways.Alone call word names named stands = absurd (has_order call named stands.0.0 stands.1)

  ends : (machine : Part) (x : ℕ) (answer : PartWords) → IsPart machine → name_in (part_call machine) ≡ name → PartIsThere l words0 words machine → part_turned machine x ≡ Done (once.Done answer)
      → (answer.compared ≡ 0) × (acted l words (part_asks machine) ≡ words)
  ends machine x answer sound named stands is =
      ends_reading machine x answer is (λ (q : Part). IsPart q → name_in (part_call q) ≡ name → PartIsThere l words0 words q → (answer.compared ≡ 0) × (acted l words (part_asks q) ≡ words))
      (λ reading done ok named_so stand.
      let checked = done_words (record reading { at = reading_at.Check }) x answer done in (
        subst (λ (a : PartWords). a.compared ≡ 0) checked.1 (way_free reading.way reading.call reading.hold.locked (length (order_in (record reading { at = reading_at.Check }))) named_so stand).1,
        set-get_or words (call_address reading.call version_offset) 0,
      ))
      (λ reading done ok named_so stand. absurd (subst IsFreely ok.here.made (way_free reading.way reading.call reading.hold.locked 0 named_so stand).0))
      sound named stands

pub lone_parts_are_served : LonePartsAreServed
lone_parts_are_served w0 i asked limit w p machine o fresh =
    let named = of_name asked (Parting machine) o.of in
    let same = still w0.layout w0.words w.words (name_asked asked) fresh machine o.sound.here named o.stands in
    record {
      still = same;
      ends = λ x answer is.
          let ended = ends w0.layout w0.words w.words (name_asked asked) fresh machine x answer o.sound.here named o.stands is in
          (ended.0, subst (λ (k : Layout). acted k w.words (part_asks machine) ≡ w0.words) (sym o.trying.start.layout) (ended.1 ∙ same));
    }
