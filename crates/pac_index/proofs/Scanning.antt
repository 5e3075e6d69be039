-- How a scan goes on by one part.
use Rattle.std.proofs.Common.{◌≡◌, ℕ, ◌-◌, ◌<◌, ◌≤◌, ◌^◌, true, false, Option, Some, None, List, [], ◌∷◌, ◌++◌, length, ⊎_elim, inl, inr, refl, sym, ap, subst, ◌∙◌, arith, All}
use Rattle.std.proofs.lemmas.Bool.{ltb-true}
use Rattle.std.proofs.lemmas.List.{append-nil, append_assoc}
use Rattle.std.proofs.lemmas.List.Elements.{All-push, All-weaker}
use Rattle.std.specs.Prelude.{Err, IfSome, Ok, Result}
use Rattle.pac_index.specs.declared.scans.Scanned.{Scanned}
use Rattle.pac_index.specs.declared.scans.Scanned.TheVariants as scanned
use Rattle.index_core.specs.PartyStates.{next_index}
use Rattle.std.proofs.Common.{take}
use Rattle.cat_key.specs.Names.{IsName}
use Rattle.cat_key.specs.declared.Pair.{Pair}
use Rattle.cat_history.specs.Maps.{Map, map_of}
use Rattle.cat_history.specs.Scans.{is_below, range, IsPart, AreParts, GoesOn}
use Rattle.cat_history.specs.Scans.AreParts.{cut_off, goes_on}
use Rattle.index_core.specs.declared.party.CoreCall.TheVariants as call
use Rattle.cat_history.specs.Writes.{after}
use Rattle.cat_history.specs.declared.op.Write.{Write}
use Rattle.cat_history.specs.declared.record.ScanPart.{ScanPart}
use Rattle.cat_history.proofs.ScanLemmas.{part_follows, scan_rises}
use Rattle.data_node.specs.Lists.{key_of}
use Rattle.call_stages.specs.declared.once.Once.TheVariants as once
use Rattle.node_ops.specs.declared.part.PartWords.{PartWords}
use Rattle.node_ops.specs.Parts.{pairs_of}
use Rattle.node_ops.specs.PartSteps.{placed_of}
use Rattle.cat_history.specs.declared.op.NameOp.TheVariants as op
use Rattle.data_node.proofs.KeyLemmas.{word_fits, key-number}
use Rattle.index_law.proofs.Maps.{after-longer}
use Rattle.index_law.proofs.AnchorTexts.{key-order, named-text}
use Rattle.index_core.specs.Listings.{ListsRange}
use Rattle.index_core.specs.Weights.{added_if}
use Rattle.pac_index.specs.declared.rule.About.{About}
use Rattle.pac_index.specs.declared.rule.Member.{Member}
use Rattle.pac_index.specs.Kept.{Begins}
use Rattle.pac_index.specs.declared.caller.Caller.{Caller}
use Rattle.pac_index.specs.declared.caller.CutCall.{CutCall}
use Rattle.pac_index.specs.Budgets.{TriedBack, place_in}
use Rattle.pac_index.specs.declared.shared.Shared.{Shared}
use Rattle.pac_index.specs.Callers.{IsAtRest, IsCallerOf, StaysCaller, seen_by, spare_of}
use Rattle.pac_index.specs.Calls.{PartAnswers}
use Rattle.pac_index.specs.CutScans.{IsCutScan, IsPartCut, PartEnds, PartsEnd, ScanEnds, is_cut_scan}
use Rattle.pac_index.specs.Cuts.{HasPaid, IsCutCall, IsCutWithin}
use Rattle.pac_index.specs.Ends.{AtLast, HasOnlyRead}
use Rattle.pac_index.specs.Scanned.{AreScanned, IsNamed, IsRead}
use Rattle.pac_index.proofs.Budgeting.{pays_then}
use Rattle.pac_index.proofs.Lists.{begins_self, begins_trans, begins_le}
use Rattle.pac_index.proofs.Repeating.{StillOrRests, back_self, back_trans, cut_off_reads, nothing_own, reads_by}

-- a part that took place has read alone
done_reads : (low : List ℕ) (count n : ℕ) (v w : Member) (words : PartWords) → PartAnswers low count n v (once.Done words) w → HasOnlyRead v w
done_reads low count n v w words is = reads_by (call.Part low count) n v w (placed_of (once.Done words)) (added_none words.old) refl is.looks
  where
    added_none : (old : Option ℕ) → added_if (op.Get low) old ≡ 0
    added_none None = refl
    added_none (Some value) = refl

module _ (low : List ℕ) (left n : ℕ) (old new : Member) (words : PartWords) (is : AtLast (TriedBack (PartAnswers low left) n) (λ before after. PartAnswers low left n before (once.Done words) after) old new) where
  pub part_reads : HasOnlyRead old new
  part_reads = back_trans old is.before new is.back (done_reads low left n is.before new words is.last)

  lists : ListsRange (after (map_of old.about.base) new.seen words.place) low left words
  lists = subst (λ (a : About). ListsRange (after (map_of a.base) new.seen words.place) low left words) is.back.about is.last.lists

  pub part_is : (pairs : List Pair) → pairs ≡ pairs_of words → IsNamed (record { low = low; high = words.high; place = words.place; pairs = pairs }) →
      IsRead low left old new (record { low = low; high = words.high; place = words.place; pairs = pairs })
  part_is pairs listed named = record {
    part_of = record {
      begins = refl;
      bounds = lists.bounds;
      later = let since = is.last.looks.says.later in let seen = begins_le old.seen is.before.seen is.back.seen in omega arith;
      lists = listed ∙ lists.lists;
    };
    within = is.last.looks.says.within;
    named = named;
  }

-- a part that was cut off has read alone
pub cut_reads : (low : List ℕ) (count : ℕ) (old a : Caller) → IsCutCall (TriedBack (PartAnswers low count) old.index) (call.Part low count) old a → HasOnlyRead (seen_by old) (seen_by a)
cut_reads low count old a is = ⊎_elim
    (λ (same : a ≡ old). subst (λ (d : Caller). HasOnlyRead (seen_by old) (seen_by d)) (sym same) (back_self (seen_by old)))
    (λ (within : IsCutWithin (TriedBack (PartAnswers low count) old.index) (call.Part low count) old a).
    back_trans (seen_by old) within.last.before (seen_by a) within.last.back (cut_off_reads (call.Part low count) old.index within.last.before (seen_by a) (place_in a.cut) (nothing_own within.last.before.state.caller old.index (place_in a.cut)) within.last.last))
    is.cut

-- and its caller tells of no more than that part
part_cut : (low : List ℕ) (count n : ℕ) (o : Option CutCall) → IfSome o (λ (cut : CutCall). (cut.call ≡ call.Part low count) × (cut.index ≡ n)) → IsPartCut o n
part_cut low count n None is = tt
part_cut low count n (Some cut) is = (low, count, is.0, is.1)

pub cut_scan : (low : List ℕ) (count : ℕ) (old a : Caller) → IsCutCall (TriedBack (PartAnswers low count) old.index) (call.Part low count) old a → IsCutScan old (record a { index = old.index })
cut_scan low count old a is = record {
  spent = is.spent;
  cut = ⊎_elim
      (λ (same : a ≡ old). inl (ap (λ (d : Caller). record d { index = old.index }) same))
      (λ (within : IsCutWithin (TriedBack (PartAnswers low count) old.index) (call.Part low count) old a). inr (part_cut low count old.index a.cut within.tells))
      is.cut;
}

-- of what one part comes to
pub part_rests : (E : Type 0) (o : Option ScanPart) (part : ScanPart) (b a : Caller) → o ≡ Some part → PartEnds {E = E} (Ok o) b a → IsAtRest a
part_rests E (Some p) part b a is ends = ends
part_rests E None part b a is ends = absurd (cc)

pub part_read : (P : ScanPart → Type 0) (o : Option ScanPart) (part : ScanPart) → o ≡ Some part → IfSome o P → P part
part_read P o part is read = subst (λ (q : Option ScanPart). IfSome q P) is read

-- a whole scan counts as one call, unless it was cut off
pub cut_ends : {E : Type 0} (r : Result Scanned E) (old new : Caller) → is_cut_scan r ≡ true → new.index ≡ old.index → PartsEnd r old new → ScanEnds r old new
cut_ends (Ok (scanned.Done parts)) old new is index ends = absurd (cc)
cut_ends (Ok (scanned.Cut parts)) old new is index ends = (ends, index)
cut_ends (Err error) old new is index ends = absurd (cc)

pub end_counts : {E : Type 0} (r : Result Scanned E) (old new : Caller) (next : ℕ) → is_cut_scan r ≡ false → next ≡ next_index old.index → PartsEnd r old new → ScanEnds r old (record new { index = next })
end_counts (Ok (scanned.Done parts)) old new next is counts ends = (ends, counts)
end_counts (Ok (scanned.Cut parts)) old new next is counts ends = absurd (cc)
end_counts (Err error) old new next is counts ends = (ends, counts)

-- ---- the parts so far

-- Whatever comes of a scan from this name on before it is cut off, comes behind these parts.
abbrev CutsHere : (ℕ → Map) → List ℕ → ℕ → ℕ → Option (List ℕ) → ℕ → ℕ → List ScanPart → Type 0
CutsHere map_at from count start None left place parts = Unit {0}
CutsHere map_at from count start (Some low) left place parts = (more : List ScanPart) → AreParts map_at low left place true more → AreParts map_at from count start true (parts ++ more)

cuts_next : (map_at : ℕ → Map) (from : List ℕ) (count start : ℕ) (low : List ℕ) (left place : ℕ) (parts : List ScanPart) (part : ScanPart) → CutsHere map_at from count start (Some low) left place parts → IsPart map_at low left place part → length part.pairs < left
    → (high : Option (List ℕ)) → part.high ≡ high → CutsHere map_at from count start high (left - length part.pairs) part.place (parts ++ part ∷ [])
cuts_next map_at from count start low left place parts part was is fewer None ends = tt
cuts_next map_at from count start low left place parts part was is fewer (Some high) ends =
    λ more are. subst (AreParts map_at from count start true) (sym (append_assoc parts (part ∷ []) more)) (was (part ∷ more) (goes_on high is fewer ends are))

-- What a scan has so far that began at one view and stands at another: whatever history goes on from there, its parts are
-- of the maps of that one, and it goes on.
pub record Scans (from : List ℕ) (count : ℕ) (old now : Member) (next : Option (List ℕ)) (left : ℕ) (parts : List ScanPart) : Type 0 where
  pub reads : HasOnlyRead old now
  pub place : ℕ
  pub reached : place ≤ length now.seen
  pub goes : (h : List Write) → Begins now.seen h → GoesOn (after (map_of old.about.base) h) from count (length old.seen) next left place parts
  pub cuts : (h : List Write) → Begins now.seen h → CutsHere (after (map_of old.about.base) h) from count (length old.seen) next left place parts
  pub within : All (λ (p : ScanPart). p.place ≤ length now.seen) parts
  pub named : All IsNamed parts

none_yet : (P : ScanPart → Type 0) (parts : List ScanPart) → parts ≡ [] → All P parts
none_yet P parts none = rw none (λ k d within. absurd (omega (arith, within)))

pub scans_first : (from : List ℕ) (count : ℕ) (old : Member) (parts : List ScanPart) → parts ≡ [] → Scans from count old old (Some from) count parts
scans_first from count old parts none = record {
  reads = back_self old;
  place = length old.seen;
  reached = omega arith;
  goes = λ h begins. rw none (λ more are. are);
  cuts = λ h begins. rw none (λ more are. are);
  within = none_yet (λ (p : ScanPart). p.place ≤ length old.seen) parts none;
  named = none_yet IsNamed parts none;
}

module _ (from : List ℕ) (count : ℕ) (old now new : Member) (low : List ℕ) (left left' : ℕ) (parts parts' : List ScanPart) (part : ScanPart) where
  -- the part that was read is one of each longer history
  of_longer : HasOnlyRead old now → IsRead low left now new part → (place : ℕ) → place ≤ length now.seen → (h : List Write) → Begins new.seen h → IsPart (after (map_of old.about.base) h) low left place part
  of_longer reads is place reached h begins = record {
    begins = is.part_of.begins;
    bounds = is.part_of.bounds;
    later = let from_now = is.part_of.later in omega arith;
    lists = is.part_of.lists ∙ ap (λ (m : Map). take left (range m part.low part.high)) maps;
  }
    where
      maps : after (map_of now.about.base) new.seen part.place ≡ after (map_of old.about.base) h part.place
      maps =
          ap (λ (a : About). after (map_of a.base) new.seen part.place) reads.about
          ∙ sym (after-longer (map_of old.about.base) new.seen begins.0 part.place is.within)
          ∙ ap (λ (l : List Write). after (map_of old.about.base) l part.place) begins.1

  scans_next : (next : Option (List ℕ)) → Scans from count old now (Some low) left parts → HasOnlyRead now new → IsRead low left now new part → parts' ≡ parts ++ part ∷ [] →
      ((h : List Write) → Begins new.seen h → GoesOn (after (map_of old.about.base) h) from count (length old.seen) next left' part.place (parts ++ part ∷ [])) →
      ((h : List Write) → Begins new.seen h → CutsHere (after (map_of old.about.base) h) from count (length old.seen) next left' part.place (parts ++ part ∷ [])) → Scans from count old new next left' parts'
  scans_next next was reads is grown goes cuts = record {
    reads = back_trans old now new was.reads reads;
    place = part.place;
    reached = is.within;
    goes = rw grown goes;
    cuts = rw grown cuts;
    within = rw grown (All-push (λ (p : ScanPart). p.place ≤ length new.seen) parts part (All-weaker (λ (p : ScanPart). p.place ≤ length now.seen) (λ (p : ScanPart). p.place ≤ length new.seen) (λ p here. let more = begins_le now.seen new.seen reads.seen in omega arith) parts was.within) is.within);
    named = rw grown (All-push IsNamed parts part was.named is.named);
  }

  follows : (was : Scans from count old now (Some low) left parts) → HasOnlyRead now new → IsRead low left now new part → (h : List Write) → Begins new.seen h →
      (length part.pairs < left → GoesOn (after (map_of old.about.base) h) from count (length old.seen) part.high (left - length part.pairs) part.place (parts ++ part ∷ []))
      × (left ≤ length part.pairs → AreParts (after (map_of old.about.base) h) from count (length old.seen) false (parts ++ part ∷ []))
  follows was reads is h begins =
      part_follows (after (map_of old.about.base) h) from count (length old.seen) low left was.place parts part (was.goes h (begins_trans now.seen new.seen h reads.seen begins)) (of_longer was.reads is was.place was.reached h begins)

  -- with names left the next part begins where this one ends
  pub scans_more : HasOnlyRead now new → left' ≡ left - length part.pairs → 0 < left' → parts' ≡ parts ++ part ∷ [] → Scans from count old now (Some low) left parts → IsRead low left now new part →
      Scans from count old new part.high left' parts'
  scans_more reads fewer some grown was is =
      scans_next part.high was reads is grown
      (λ h begins. subst (λ (k : ℕ). GoesOn (after (map_of old.about.base) h) from count (length old.seen) part.high k part.place (parts ++ part ∷ [])) (sym fewer) ((follows was reads is h begins).0 (omega (arith, fewer, some))))
      (λ h begins. subst (λ (k : ℕ). CutsHere (after (map_of old.about.base) h) from count (length old.seen) part.high k part.place (parts ++ part ∷ [])) (sym fewer)
      (cuts_next (after (map_of old.about.base) h) from count (length old.seen) low left was.place parts part (was.cuts h (begins_trans now.seen new.seen h reads.seen begins)) (of_longer was.reads is was.place was.reached h begins) (omega (arith, fewer, some)) part.high refl))

  -- and with none it was the last one
  pub scans_last : HasOnlyRead now new → left' ≡ left - length part.pairs → left' ≤ 0 → parts' ≡ parts ++ part ∷ [] → Scans from count old now (Some low) left parts → IsRead low left now new part →
      Scans from count old new None left' parts'
  scans_last reads fewer none grown was is = scans_next None was reads is grown (λ h begins. (follows was reads is h begins).1 (omega (arith, fewer, none))) (λ h begins. tt)

pub scans_end : (from : List ℕ) (count : ℕ) (old now : Member) (left : ℕ) (parts : List ScanPart) → Scans from count old now None left parts → AreScanned from count false old now parts
scans_end from count old now left parts is =
    let scan = is.goes now.seen (begins_self now.seen) in
    record {
      scan = scan;
      within = is.within;
      rise = scan_rises (after (map_of old.about.base) now.seen) from count (length old.seen) false parts scan;
      named = is.named;
    }

-- one that is cut off behind these parts
pub scans_cut : (from : List ℕ) (count : ℕ) (old now new : Member) (low : List ℕ) (left : ℕ) (parts : List ScanPart) → Scans from count old now (Some low) left parts → HasOnlyRead now new → AreScanned from count true old new parts
scans_cut from count old now new low left parts was reads =
    let scan = subst (AreParts (after (map_of old.about.base) new.seen) from count (length old.seen) true) (append-nil parts) (was.cuts new.seen reads.seen [] cut_off) in
    record {
      scan = scan;
      within = All-weaker (λ (p : ScanPart). p.place ≤ length now.seen) (λ (p : ScanPart). p.place ≤ length new.seen) (λ p here. let more = begins_le now.seen new.seen reads.seen in omega arith) parts was.within;
      rise = scan_rises (after (map_of old.about.base) new.seen) from count (length old.seen) true parts scan;
      named = was.named;
    }

-- ---- that it ends

-- how many numbers of names there are past that of the next part's low name, and one
abbrev pub to_come : Option (List ℕ) → ℕ
to_come None = 0
to_come (Some low) = 2 ^ 192 - key_of low

few_keys : (name : List ℕ) → IsName name → key_of name < 2 ^ 192
few_keys name is =
    let first = word_fits name is.bytes 0 in
    let second = word_fits name is.bytes 1 in
    let third = word_fits name is.bytes 2 in
    let number = key-number name in
    omega (arith, first, second, third, number)

pub one_to_come : (low : List ℕ) → IsName low → to_come None < to_come (Some low)
one_to_come low is = let few = few_keys low is in omega arith

pub fewer_to_come : (low : List ℕ) (next : Option (List ℕ)) → IsName low → IfSome next IsName → IfSome next (λ high. is_below low high ≡ true) → to_come next < to_come (Some low)
fewer_to_come low None is named above = one_to_come low is
fewer_to_come low (Some high) is named above =
    let few = few_keys low is in
    let more = ltb-true (key_of low) (key_of high) (sym (key-order low high (named-text low is) (named-text high named)) ∙ above) in
    omega (arith, few, more)

-- What the loop over a scan's parts keeps of its caller.
abbrev pub ReadSoFar : Shared → List ℕ → ℕ → Caller → Caller → Option (List ℕ) → ℕ → List ScanPart → Type 0
ReadSoFar s from count old now next left parts = record {
  caller : IsCallerOf s now;
  number : now.number ≡ old.number;
  index : now.index ≡ old.index;
  still : StillOrRests old now;
  over : next ≡ None → IsAtRest now;
  paid : HasPaid old now;
  spare : spare_of old ≤ spare_of now;
  scans : Scans from count (seen_by old) (seen_by now) next left parts;
}

-- one part more, which was read behind those so far
pub part_on : (E : Type 0) (s : Shared) (from : List ℕ) (count : ℕ) (old b a : Caller) (next next' : Option (List ℕ)) (left left' : ℕ) (parts parts' : List ScanPart) (read : Option ScanPart) (part : ScanPart) (low : List ℕ) → ReadSoFar s from count old b next left parts → next ≡ Some low
    → read ≡ Some part → StaysCaller s b a → a.index ≡ b.index → PartEnds {E = E} (Ok read) b a → HasPaid b a → spare_of b ≤ spare_of a → IfSome read (IsRead low left (seen_by b) (seen_by a))
    → (Scans from count (seen_by old) (seen_by b) (Some low) left parts → IsRead low left (seen_by b) (seen_by a) part → Scans from count (seen_by old) (seen_by a) next' left' parts') → ReadSoFar s from count old a next' left' parts'
part_on E s from count old b a next next' left left' parts parts' read part low was at is stays index ends paid less told scans =
    let rests = part_rests E read part b a is ends in
    record {
      caller = stays.0;
      number = stays.1 ∙ was.number;
      index = index ∙ was.index;
      still = inr rests;
      over = λ none. rests;
      paid = pays_then old.left b.left a.left (seen_by old).taken (seen_by b).taken (seen_by a).taken was.paid paid;
      spare = let more = was.spare in omega arith;
      scans = scans (subst (λ (o : Option (List ℕ)). Scans from count (seen_by old) (seen_by b) o left parts) at was.scans) (part_read (IsRead low left (seen_by b) (seen_by a)) read part is told);
    }

-- what a scan leaves that ends behind a part
pub ends_behind : (s : Shared) (from : List ℕ) (count : ℕ) (old b a : Caller) (next : Option (List ℕ)) (left : ℕ) (parts : List ScanPart) → ReadSoFar s from count old b next left parts → StaysCaller s b a → a.index ≡ b.index → HasOnlyRead (seen_by b) (seen_by a) → HasPaid b a
    → spare_of b ≤ spare_of a → StaysCaller s old a × (a.index ≡ old.index) × HasOnlyRead (seen_by old) (seen_by a) × HasPaid old a × (spare_of old ≤ spare_of a)
ends_behind s from count old b a next left parts was stays index reads paid less =
    let spare : spare_of old ≤ spare_of a = let more = was.spare in omega arith in
    ((stays.0, stays.1 ∙ was.number), index ∙ was.index, back_trans (seen_by old) (seen_by b) (seen_by a) was.scans.reads reads, pays_then old.left b.left a.left (seen_by old).taken (seen_by b).taken (seen_by a).taken was.paid paid, spare)

-- one that was cut off
pub cut_behind : (old b a : Caller) → StillOrRests old b → b.index ≡ old.index → IsCutScan b a → IsCutScan old a
cut_behind old b a still index is = record {
  spent = is.spent;
  cut = ⊎_elim
      (λ (same : a ≡ b). ⊎_elim
      (λ (first : b ≡ old). inl (same ∙ first))
      (λ (rests : IsAtRest b). inr (subst (λ (o : Option CutCall). IsPartCut o old.index) (sym (ap (λ (d : Caller). d.cut) same ∙ rests.2)) tt))
      still)
      (λ (part : IsPartCut a.cut b.index). inr (subst (IsPartCut a.cut) index part))
      is.cut;
}

pub cut_here : (E : Type 0) (o : Option ScanPart) (b a : Caller) → o ≡ None → PartEnds {E = E} (Ok o) b a → IsCutScan b a
cut_here E (Some part) b a none ends = absurd (cc)
cut_here E None b a none ends = ends
