-- What a part of a scan has of its node's range while it is in flight, and what it lists.
use Rattle.std.proofs.Common.{◌≡◌, inl, inr, ⊎_elim, ℕ, ◌<◌, ◌≤◌, ◌^◌, Bool, true, false, cond, List, [], ◌++◌, length, refl, sym, ap, ◌∙◌, subst, arith}
use Rattle.std.specs.Prelude.{◌&&◌, if◌then◌else◌, nat_lt, Option, Some, slice_index, take}
use Rattle.std.proofs.lemmas.Bool.{cases_lt, eq-eqb}
use Rattle.std.proofs.lemmas.List.{length-append, set-get_or, take_all}
use Rattle.std.proofs.lemmas.Option.{IfSome_then}
use Rattle.pm_words.specs.declared.layout.Layout.{Layout}
use Rattle.pm_words.specs.declared.action.Action.{Action}
use Rattle.pm_words.specs.Locations.{node_words}
use Rattle.pm_words.specs.Rows.{IsRow, acted, got}
use Rattle.cat_key.specs.Names.{IsName}
use Rattle.cat_history.specs.Maps.{Map}
use Rattle.cat_history.specs.Writes.{after, after_all}
use Rattle.cat_history.specs.declared.op.Write.{Write}
use Rattle.data_node.specs.Lists.{ListNode, range_in}
use Rattle.call_stages.specs.Kinds.{version_address, word_address}
use Rattle.node_ops.specs.declared.part.PartWords.{PartWords}
use Rattle.node_ops.specs.declared.part.Part.{Part}
use Rattle.node_ops.specs.declared.part.Part.TheVariants as part
use Rattle.node_ops.specs.declared.running.Running.TheVariants.{Parting}
use Rattle.node_ops.specs.Calls.{IsCall, name_in}
use Rattle.node_ops.specs.CallStages.{part_stage}
use Rattle.node_ops.specs.PartSteps.{IsPart, part_call, part_asks, part_count, part_listed}
use Rattle.node_ops.specs.Parts.{Confirms, GivesVersion, HaveWords, EndsAt, HasCompared, IsPartOf, IsToldVersion, Relies, pairs_in}
use Rattle.node_ops.specs.Permuting.{PermutationRead, reading_of}
use Rattle.node_ops.specs.RunningSteps.{Sound}
use Rattle.node_ops.proofs.PartBounds.{ends_are_ranges, parts_end}
use Rattle.node_ops.proofs.PartListing.{listed_is_told}
use Rattle.node_ops.proofs.PartTelling.{part_tells, parts_hear}
use Rattle.index_law.specs.Facts.{Facts, facts_of, list_in, map_now, range_of, spot_in, version_in}
use Rattle.index_law.specs.Lawful.{HasNames, IsList, Sure}
use Rattle.index_law.proofs.Maps.{after-longer}
use Rattle.index_law.proofs.Rows.{facts-version, version_in-here}
use Rattle.index_core.specs.Listings.{IsPartAt, ListsRange}

-- the words of nodes have 64 bits
pub have_words : (l : Layout) (words : List ℕ) (base : Map) (history : List Write) → IsRow l words → HaveWords (facts_of l words base history)
unfolding spot_in
have_words l words base history row n offset =
    elim (nat_lt n l.nodes && (nat_lt 0 offset && nat_lt offset (node_words l))) as (λ b. (if b then slice_index words (word_address l n offset) else 0) < 2 ^ 64) [
      | true ↦ row.fits (word_address l n offset)
      | false ↦ omega arith
    ]

pub sound_call : (p : Part) → IsPart p → IsCall (part_call p)
sound_call (part.Looking lookup count) is = is.0.call
sound_call (part.Ordering call seen count load) is = is.there.sound
sound_call (part.Locking call seen count locked) is = is.0.sound
sound_call (part.Dating call seen count way) is = is.0.sound
sound_call (part.Reading reading) is = is.call

-- After an action that gives a part's version word its node has that word, and the list is as it was.
record IsGiven (l : Layout) (words after : List ℕ) (listing : PartWords) : Type 0 where
  version : version_in l after listing.node ≡ listing.version
  list : list_in l after ≡ list_in l words

is_given : (l : Layout) (words : List ℕ) (base : Map) (action : Action) (x : ℕ) (listing : PartWords) → IsRow l words → listing.node < l.nodes → x ≡ got l words action → GivesVersion l action x listing → IsGiven l words (acted l words action) listing
is_given l words base action x listing row here told (inl loads) =
    let same : acted l words action ≡ words = ap (acted l words) loads.0 ∙ set-get_or words (version_address l listing.node) 0 in
    record {
      version = ap (λ (v : List ℕ). version_in l v listing.node) same ∙ version_in-here l words listing.node here ∙ sym (told ∙ ap (got l words) loads.0) ∙ loads.1;
      list = ap (list_in l) same;
    }
is_given l words base action x listing row here told (inr stores) =
    let stored = facts-version l words base [] listing.node listing.version row.whole here in
    record {
      version = ap (λ (a : Action). version_in l (acted l words a) listing.node) stores ∙ ap (λ (f : Facts). f.version listing.node) stored
          ∙ ap (λ (b : Bool). cond b listing.version (version_in l words listing.node)) (eq-eqb listing.node listing.node refl);
      list = ap (λ (a : Action). list_in l (acted l words a)) stores ∙ ap (λ (f : Facts). f.list) stored;
    }

-- Where its action gives its version word, it lists what the map had at its place.
pub listed_at_end : (l : Layout) (g : ℕ) (words : List ℕ) (base : Map) (history history' : List Write) (caller index since : ℕ) (p : Part) (listing : PartWords) → IsRow l words → Sound l g (Parting p)
    → IsList l (facts_of l words base history) → HasNames (map_now (facts_of l words base history)) → Sure l g (facts_of l words base history) caller index since (part_stage p)
    → Relies l (facts_of l words base history) words (Parting p) → history' ≡ history → part_listed p ≡ Some listing → (x : ℕ) → x ≡ got l words (part_asks p) → Confirms (Parting p) x listing
    → IsPartAt l (facts_of l (acted l words (part_asks p)) base history') (reading_of (Parting p)) (name_in (part_call p)) (part_count p) listing
listed_at_end l g words base history history' caller index since p listing row sound list named sure relies longer lists x told confirms =
    let f = facts_of l words base history in
    let low = name_in (part_call p) in
    let done = listed_is_told p listing lists x confirms in
    let hears = parts_hear p x listing done in
    let here : (part_call p).node < l.nodes = subst (λ (m : Layout). (part_call p).node < m.nodes) sound.layout (sound_call p sound.here).node in
    let here' : listing.node < l.nodes = subst (λ (n : ℕ). n < l.nodes) (sym hears.node) here in
    let gives : IsToldVersion l f p x = λ loads. told ∙ ap (got l words) loads ∙ sym (version_in-here l words (part_call p).node here) in
    let tells = part_tells l g f words caller index since p x listing sound named sure relies gives done in
    let ends = parts_end l g f words caller index since p x listing sound list (have_words l words base history row) sure relies gives done in
    let given = is_given l words base (part_asks p) x listing row here' told (subst (λ (m : Layout). GivesVersion m (part_asks p) x listing) sound.layout confirms) in
    record {
      part = subst (λ (q : List Write × List ListNode). IsPartOf (after base q.0 listing.place) (range_in q.1 listing.node) low (part_count p) listing) (λ k. (sym longer k, sym given.list k)) tells.then_was;
      ends = subst (λ (ms : List ListNode). EndsAt (range_in ms listing.node) low listing.high) (sym given.list) ends;
      version = given.version;
      compared = subst (λ (q : List Write × List ListNode). HasCompared (reading_of (Parting p)) (length (pairs_in (after_all base q.0) (range_in q.1 listing.node))) listing) (λ k. (sym longer k, sym given.list k)) tells.compared;
    }

-- So these are a range of the map at its place.
pub lists_range : (l : Layout) (f : Facts) (reading : Option PermutationRead) (low : List ℕ) (count : ℕ) (words : PartWords) → IsName low → HasNames (after f.base f.history words.place) → IsPartAt l f reading low count words
    → ListsRange (after f.base f.history words.place) low count words
lists_range l f reading low count words low_named named is = record {
  few = is.part.few;
  bounds = IfSome_then words.high is.ends.above (λ high above. above.1);
  lists = is.part.lists ∙ ap (take count) (ends_are_ranges (range_of l f words.node) low words.high (after f.base f.history words.place) low_named is.ends named);
  named = is.part.named;
}

-- the maps at the places of a history that is one write longer
pub names_longer : (base : Map) (h more : List Write) → length more ≤ 1 → ((place : ℕ) → HasNames (after base h place)) → HasNames (after_all base (h ++ more)) → (place : ℕ) → HasNames (after base (h ++ more) place)
names_longer base h more one before now place =
    ⊎_elim
    (λ (past : length h < place).
    let long = length-append h more in
    subst HasNames (sym (ap (after_all base) (take_all place (h ++ more) (omega arith)))) now)
    (λ (within : place ≤ length h). subst HasNames (sym (after-longer base h more place within)) (before place))
    (cases_lt (length h) place)
