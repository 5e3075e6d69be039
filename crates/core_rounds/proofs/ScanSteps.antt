-- How a scan goes on by one part.
use Rattle.std.proofs.Common.{◌≡◌, ℕ, ◌+◌, ◌-◌, ◌<◌, ◌≤◌, false, Option, Some, None, List, [], ◌∷◌, ◌++◌, length, sym, ap, subst, ◌∙◌, arith, All}
use Rattle.std.proofs.lemmas.List.Elements.{All-push}
use Rattle.cat_history.specs.Maps.{Map}
use Rattle.cat_history.specs.Scans.{IsPart, GoesOn}
use Rattle.cat_history.proofs.ScanLemmas.{part_follows, parts_later}
use Rattle.cat_history.specs.declared.record.ScanPart.{ScanPart}
use Rattle.cat_text.specs.ReportGrammar.{IsReportPart}
use Rattle.shapes.specs.Anchors.{Anchors, past, next_of}
use Rattle.stopped_rounds.proofs.ScanStops.{to_come, fewer-to-come}
use Rattle.core_rounds.specs.Updated.{HoldsSame, KeepsBounds, UpdatedState, UsesUp, WaitOn}
use Rattle.core_rounds.proofs.Using.{bounds-first, bounds-then, same-first, same-then}

-- the last part is one that was to come
pub one-to-come : (anchors : Anchors) (low : List ℕ) → 0 + 1 ≤ to_come anchors (Some low)
one-to-come anchors low = omega arith

-- ---- one part more

-- what a scan has so far: parts that are those of a report, were read at one place and end with members, and goes on
pub record Reads (m : Map) (anchors : Anchors) (from : List ℕ) (count place : ℕ) (next : Option (List ℕ)) (left : ℕ) (parts : List ScanPart) : Type 0 where
  pub goes : GoesOn (λ _. m) from count 0 next left place parts
  pub at_once : All (λ (p : ScanPart). p.place ≡ place) parts
  pub bounds : All (λ (p : ScanPart). p.high ≡ next_of anchors p.low) parts
  pub told : All IsReportPart parts

-- the part of a map and a shape that was read next
pub record IsNext (m : Map) (anchors : Anchors) (low : List ℕ) (left place : ℕ) (p : ScanPart) : Type 0 where
  pub part : IsPart (λ _. m) low left place p
  pub here : p.place ≡ place
  pub bound : p.high ≡ next_of anchors low
  pub told : IsReportPart p

-- by what it is of the map and the shape as they are
pub next-part : (m : Map) (anchors : Anchors) (n : Map) {a : Anchors} (low : List ℕ) (left place : ℕ) (p : ScanPart) → n ≡ m → a ≡ anchors → IsPart (λ _. n) low left place p → p.place ≡ place → p.high ≡ next_of a low →
    IsReportPart p → IsNext m anchors low left place p
next-part m anchors n low left place p same shape is here bound told = record {
  part = subst (λ (k : Map). IsPart (λ _. k) low left place p) same is;
  here = here;
  bound = bound ∙ ap (λ (b : Anchors). next_of b low) shape;
  told = told;
}

pub reads-first : (m : Map) (anchors : Anchors) (from : List ℕ) (count place : ℕ) (parts : List ScanPart) → parts ≡ [] → Reads m anchors from count place (Some from) count parts
reads-first m anchors from count place parts none = record {
  goes = rw none (λ more are. parts_later (λ _. m) from count 0 place false more (omega arith) are);
  at_once = rw none (λ k d within. absurd (omega (arith, within)));
  bounds = rw none (λ k d within. absurd (omega (arith, within)));
  told = rw none (λ k d within. absurd (omega (arith, within)));
}

reads-next : (m : Map) (anchors : Anchors) (from : List ℕ) (count place : ℕ) (low : List ℕ) (left left' : ℕ) (parts parts' : List ScanPart) (p : ScanPart) (next : Option (List ℕ)) →
    Reads m anchors from count place (Some low) left parts → IsNext m anchors low left place p → GoesOn (λ _. m) from count 0 next left' place (parts ++ p ∷ []) → parts' ≡ parts ++ p ∷ [] →
    Reads m anchors from count place next left' parts'
reads-next m anchors from count place low left left' parts parts' p next was is goes grown = record {
  goes = rw grown goes;
  at_once = rw grown (All-push (λ (q : ScanPart). q.place ≡ place) parts p was.at_once is.here);
  bounds = rw grown (All-push (λ (q : ScanPart). q.high ≡ next_of anchors q.low) parts p was.bounds (is.bound ∙ ap (next_of anchors) (sym is.part.begins)));
  told = rw grown (All-push IsReportPart parts p was.told is.told);
}

module _ (m : Map) (anchors : Anchors) (from : List ℕ) (count place : ℕ) (low : List ℕ) (left left' : ℕ) (parts parts' : List ScanPart) (p : ScanPart) where
  pub reads-more : (next : Option (List ℕ)) → next ≡ Some low → Reads m anchors from count place next left parts → IsNext m anchors low left place p → left' ≡ left - length p.pairs → 0 < left' →
      parts' ≡ parts ++ p ∷ [] → Reads m anchors from count place p.high left' parts'
  reads-more next begins was is fewer some grown =
      let reads = subst (λ (o : Option (List ℕ)). Reads m anchors from count place o left parts) begins was in
      let follows = part_follows (λ _. m) from count 0 low left place parts p reads.goes is.part in
      let goes = follows.0 (omega (arith, fewer, some)) in
      reads-next m anchors from count place low left left' parts parts' p p.high reads is
      (subst (λ (k : ℕ). GoesOn (λ _. m) from count 0 p.high k place (parts ++ p ∷ [])) (sym fewer)
      (subst (λ (k : ℕ). GoesOn (λ _. m) from count 0 p.high (left - length p.pairs) k (parts ++ p ∷ [])) is.here goes)) grown

  pub reads-last : (next : Option (List ℕ)) → next ≡ Some low → Reads m anchors from count place next left parts → IsNext m anchors low left place p → left' ≡ left - length p.pairs → left' ≤ 0 →
      parts' ≡ parts ++ p ∷ [] → Reads m anchors from count place None left' parts'
  reads-last next begins was is fewer none grown =
      let reads = subst (λ (o : Option (List ℕ)). Reads m anchors from count place o left parts) begins was in
      let follows = part_follows (λ _. m) from count 0 low left place parts p reads.goes is.part in
      reads-next m anchors from count place low left left' parts parts' p None reads is (follows.1 (omega (arith, fewer, none))) grown

-- ---- the map beside it

-- what is told of a part that is read of a map
pub record IsRead (s : UpdatedState) (low : List ℕ) (left place : ℕ) (p : ScanPart) : Type 0 where
  pub part : IsPart (λ _. s.contents) low left place p
  pub here : p.place ≡ place
  pub high : p.high ≡ next_of s.anchors low
  pub told : IsReportPart p

next-read : (first was : UpdatedState) (low : List ℕ) (left place : ℕ) (p : ScanPart) → HoldsSame first was → IsRead was low left place p → IsNext first.contents first.anchors low left place p
next-read first was low left place p same read =
    next-part first.contents first.anchors was.contents low left place p same.contents same.anchors read.part read.here read.high read.told

-- the scan goes on behind its parts so far, on a map that holds what it held, and has calls left for the parts to come
pub record Scanned (first now : UpdatedState) (waited has : ℕ → ℕ → ℕ → Type 0) (from : List ℕ) (count place : ℕ) (next : Option (List ℕ)) (left : ℕ) (parts : List ScanPart) : Type 0 where
  pub reads : Reads first.contents first.anchors from count place next left parts
  pub same : HoldsSame first now
  pub bounds : KeepsBounds first now
  pub calls : first.calls_left + to_come first.anchors next ≤ now.calls_left + (length (past first.anchors from) + 1)
  pub writes : first.writes_left ≤ now.writes_left
  pub waits : WaitOn waited has

pub scanned-first : (first : UpdatedState) (has : ℕ → ℕ → ℕ → Type 0) (from : List ℕ) (count place : ℕ) (parts : List ScanPart) → parts ≡ [] → Scanned first first has has from count place (Some from) count parts
scanned-first first has from count place parts none = record {
  reads = reads-first first.contents first.anchors from count place parts none;
  same = same-first first;
  bounds = bounds-first first;
  calls = omega arith;
  writes = omega arith;
  waits = λ changes writes puts waits. waits;
}

module _ (first was now : UpdatedState) (waited had has : ℕ → ℕ → ℕ → Type 0) (from : List ℕ) (count place : ℕ) (low : List ℕ) (left left' : ℕ) (parts parts' : List ScanPart) (p : ScanPart) where
  -- a part uses up one call, and one part fewer is to come
  behind : (next more : Option (List ℕ)) → next ≡ Some low → Scanned first was waited had from count place next left parts → HoldsSame was now → UsesUp was now 1 0 → WaitOn had has →
      to_come first.anchors more + 1 ≤ to_come first.anchors (Some low) → Reads first.contents first.anchors from count place more left' parts' → Scanned first now waited has from count place more left' parts'
  behind next more begins before same uses waits less reads =
      let come = ap (to_come first.anchors) begins in
      let calls = before.calls in
      let one = uses.calls_left in
      let writes = before.writes in
      let none = uses.writes_left in
      record {
        reads = reads;
        same = same-then first was now before.same same;
        bounds = bounds-then first was now before.bounds uses.bounds;
        calls = omega (arith, come, calls, one, less);
        writes = omega (arith, writes, none);
        waits = λ changes writes puts waited_so. waits changes writes puts (before.waits changes writes puts waited_so);
      }

  pub scanned-more : (next : Option (List ℕ)) → next ≡ Some low → Scanned first was waited had from count place next left parts → IsRead was low left place p → HoldsSame was now → UsesUp was now 1 0 → WaitOn had has →
      left' ≡ left - length p.pairs → 0 < left' → parts' ≡ parts ++ p ∷ [] → Scanned first now waited has from count place p.high left' parts'
  scanned-more next begins before read same uses waits fewer some grown =
      let is = next-read first was low left place p before.same read in
      behind next p.high begins before same uses waits (fewer-to-come first.anchors low p.high is.bound)
      (reads-more first.contents first.anchors from count place low left left' parts parts' p next begins before.reads is fewer some grown)

  pub scanned-last : (next : Option (List ℕ)) → next ≡ Some low → Scanned first was waited had from count place next left parts → IsRead was low left place p → HoldsSame was now → UsesUp was now 1 0 → WaitOn had has →
      left' ≡ left - length p.pairs → left' ≤ 0 → parts' ≡ parts ++ p ∷ [] → Scanned first now waited has from count place None left' parts'
  scanned-last next begins before read same uses waits fewer none grown =
      let is = next-read first was low left place p before.same read in
      behind next None begins before same uses waits (one-to-come first.anchors low)
      (reads-last first.contents first.anchors from count place low left left' parts parts' p next begins before.reads is fewer none grown)
