-- How a scan goes on by one part, or is cut off.
use Rattle.std.proofs.Common.{inl, inr, ◌≡◌, ℕ, ◌+◌, ◌-◌, ◌<◌, ◌≤◌, Bool, true, false, Option, Some, None, List, [], ◌∷◌, ◌++◌, length, take, refl, sym, ap, subst, ◌∙◌, arith, All, append_assoc, append-nil}
use Rattle.std.proofs.lemmas.List.{length-take}
use Rattle.std.proofs.lemmas.List.Elements.{All-push}
use Rattle.std.specs.Prelude.{IfSome}
use Rattle.cat_key.specs.declared.Pair.{Pair}
use Rattle.cat_history.specs.Maps.{Map}
use Rattle.cat_history.specs.Scans.{is_below, range, IsPart, AreParts}
use Rattle.cat_history.specs.Scans.AreParts.{cut_off, ends, goes_on}
use Rattle.cat_history.specs.declared.record.ScanPart.{ScanPart}
use Rattle.cat_history.proofs.ScanLemmas.{parts_later}
use Rattle.cat_text.specs.ReportGrammar.{IsReportPart}
use Rattle.shapes.specs.Anchors.{Anchors, past, next_of}
use Rattle.shapes.specs.Weights.{IsShape}
use Rattle.shapes.proofs.ScansByShape.{next-above, past-shorter, past-within}
use Rattle.stopped_rounds.specs.Bounded.{MapState, IsSame}
use Rattle.stopped_rounds.specs.Stops.{IsScanSoFar}
use Rattle.stopped_rounds.proofs.Came.{of_some}

-- a part of the shape at this place
pub part-is : (m : Map) (anchors : Anchors) (low : List ℕ) (left place : ℕ) (high : Option (List ℕ)) (pairs : List Pair) → high ≡ next_of anchors low → pairs ≡ take left (range m low high) →
    IsPart (λ _. m) low left place (record { low = low; high = high; place = place; pairs = pairs })
part-is m anchors low left place high pairs bound lists = record { begins = refl; bounds = bounded high bound; later = omega arith; lists = lists }
  where
    bounded : (o : Option (List ℕ)) → o ≡ next_of anchors low → IfSome o (λ high. is_below low high ≡ true)
    bounded None is = tt
    bounded (Some high) is = next-above anchors low high (sym is)

-- what is still to come of a scan, whether it is cut off there or not
abbrev pub ToCome : Map → List ℕ → ℕ → Option (List ℕ) → ℕ → ℕ → List ScanPart → Type 0
ToCome m from count None left place parts = AreParts (λ _. m) from count 0 false parts
ToCome m from count (Some low) left place parts = (cut : Bool) (more : List ScanPart) → AreParts (λ _. m) low left place cut more → AreParts (λ _. m) from count 0 cut (parts ++ more)

pub record Reads (s : MapState) (from : List ℕ) (count place : ℕ) (next : Option (List ℕ)) (left : ℕ) (parts : List ScanPart) : Type 0 where
  pub goes : ToCome s.contents from count next left place parts
  pub at_once : All (λ (p : ScanPart). p.place ≡ place) parts
  pub bounds : All (λ (p : ScanPart). p.high ≡ next_of s.anchors p.low) parts
  pub told : All IsReportPart parts

pub reads-first : (s : MapState) (from : List ℕ) (count place : ℕ) (parts : List ScanPart) → parts ≡ [] → Reads s from count place (Some from) count parts
reads-first s from count place parts none = record {
  goes = rw none (λ cut more are. parts_later (λ _. s.contents) from count 0 place cut more (omega arith) are);
  at_once = rw none (λ k d within. absurd (omega (arith, within)));
  bounds = rw none (λ k d within. absurd (omega (arith, within)));
  told = rw none (λ k d within. absurd (omega (arith, within)));
}

-- cut off here
pub reads-cut : (s : MapState) (from : List ℕ) (count place : ℕ) (next : Option (List ℕ)) (low : List ℕ) (left : ℕ) (parts : List ScanPart) → next ≡ Some low → Reads s from count place next left parts → IsScanSoFar s from count place true parts
reads-cut s from count place next low left parts is was =
    let goes : ToCome s.contents from count (Some low) left place parts = subst (λ (o : Option (List ℕ)). ToCome s.contents from count o left place parts) is was.goes in
    record { legal = subst (AreParts (λ _. s.contents) from count 0 true) (append-nil parts) (goes true [] cut_off); at_once = was.at_once; ends = was.bounds }

-- at its end
pub reads-end : (s : MapState) (from : List ℕ) (count place : ℕ) (next : Option (List ℕ)) (left : ℕ) (parts : List ScanPart) → next ≡ None → Reads s from count place next left parts → IsScanSoFar s from count place false parts
reads-end s from count place next left parts is was =
    record { legal = subst (λ (o : Option (List ℕ)). ToCome s.contents from count o left place parts) is was.goes; at_once = was.at_once; ends = was.bounds }

-- a part that was read next
pub record IsNext (s : MapState) (low : List ℕ) (left place : ℕ) (p : ScanPart) : Type 0 where
  pub part : IsPart (λ _. s.contents) low left place p
  pub here : p.place ≡ place
  pub bound : p.high ≡ next_of s.anchors low
  pub told : IsReportPart p

next-part : (s now : MapState) (low : List ℕ) (left place : ℕ) (p : ScanPart) → now.contents ≡ s.contents → now.anchors ≡ s.anchors → IsPart (λ _. now.contents) low left place p → p.place ≡ place → p.high ≡ next_of now.anchors low → IsReportPart p → IsNext s low left place p
next-part s now low left place p same shape is here bound told = record {
  part = subst (λ (k : Map). IsPart (λ _. k) low left place p) same is;
  here = here;
  bound = bound ∙ ap (λ (b : Anchors). next_of b low) shape;
  told = told;
}

-- the next part, where the map is as it was
pub read-next : (s now : MapState) (low : List ℕ) (left place : ℕ) (read : Option ScanPart) (p : ScanPart) → IsSame s now → read ≡ Some p
    → IfSome read (λ part. IsPart (λ _. now.contents) low left place part × (part.place ≡ place) × (part.high ≡ next_of now.anchors low)) → IfSome read IsReportPart → IsNext s low left place p
read-next s now low left place read p same is here told =
    let tells = of_some _ read p is here in
    next-part s now low left place p same.0 same.1 tells.0 tells.1 tells.2 (of_some _ read p is told)

part_few : (s : MapState) (low : List ℕ) (left place : ℕ) (p : ScanPart) → IsPart (λ _. s.contents) low left place p → length p.pairs ≤ left
part_few s low left place p is = omega (arith, ap length is.lists, length-take left (range s.contents p.low p.high))

pub part-fits : (s : MapState) (low : List ℕ) (left place : ℕ) (p : ScanPart) → IsNext s low left place p → length p.pairs ≤ left
part-fits s low left place p is = part_few s low left place p is.part

grown : (s : MapState) (from : List ℕ) (count place : ℕ) (low : List ℕ) (left left' : ℕ) (parts parts' : List ScanPart) (p : ScanPart) (next : Option (List ℕ)) → Reads s from count place (Some low) left parts → IsNext s low left place p
    → ToCome s.contents from count next left' place (parts ++ p ∷ []) → parts' ≡ parts ++ p ∷ [] → Reads s from count place next left' parts'
grown s from count place low left left' parts parts' p next was is goes grows = record {
  goes = rw grows goes;
  at_once = rw grows (All-push (λ (q : ScanPart). q.place ≡ place) parts p was.at_once is.here);
  bounds = rw grows (All-push (λ (q : ScanPart). q.high ≡ next_of s.anchors q.low) parts p was.bounds (is.bound ∙ ap (next_of s.anchors) (sym is.part.begins)));
  told = rw grows (All-push IsReportPart parts p was.told is.told);
}

module _ (s : MapState) (from : List ℕ) (count place : ℕ) (low : List ℕ) (left left' : ℕ) (parts parts' : List ScanPart) (p : ScanPart) (next : Option (List ℕ)) (is : next ≡ Some low) (was' : Reads s from count place next left parts) (new : IsNext s low left place p) (less : left' ≡ left - length p.pairs) (grows : parts' ≡ parts ++ p ∷ []) where
  was : Reads s from count place (Some low) left parts
  was = subst (λ (o : Option (List ℕ)). Reads s from count place o left parts) is was'

  pub reads-more : 0 < left' → Reads s from count place p.high left' parts'
  reads-more some =
      let fewer : length p.pairs < left = omega arith in
      grown s from count place low left left' parts parts' p p.high was new (on fewer p.high refl) grows
    where
      on : length p.pairs < left → (o : Option (List ℕ)) → p.high ≡ o → ToCome s.contents from count o left' place (parts ++ p ∷ [])
      on fewer None at = was.goes false (p ∷ []) (ends new.part (inr at))
      on fewer (Some high) at = λ cut more are.
          subst (AreParts (λ _. s.contents) from count 0 cut) (sym (append_assoc parts (p ∷ []) more))
          (was.goes cut (p ∷ more) (goes_on high new.part fewer at (subst (λ (q : ℕ × ℕ). AreParts (λ _. s.contents) high q.0 q.1 cut more) (λ k. (less k, sym new.here k)) are)))

  pub reads-last : left' ≡ 0 → Reads s from count place None left' parts'
  reads-last none =
      let few = part_few s low left place p new.part in
      let all : length p.pairs ≡ left = omega arith in
      grown s from count place low left left' parts parts' p None was new (was.goes false (p ∷ []) (ends new.part (inl all))) grows

-- ---- how many

-- so many parts are to come at most
abbrev pub to_come : Anchors → Option (List ℕ) → ℕ
to_come anchors None = 0
to_come anchors (Some low) = length (past anchors low) + 1

pub fewer-to-come : (anchors : Anchors) (low : List ℕ) (next : Option (List ℕ)) → next ≡ next_of anchors low → to_come anchors next + 1 ≤ to_come anchors (Some low)
fewer-to-come anchors low None is = omega arith
fewer-to-come anchors low (Some high) is = let less = past-shorter anchors low high (sym is) in omega arith

-- behind a part that was read fewer of them are to come
pub fewer-behind : (s : MapState) (next : Option (List ℕ)) (low : List ℕ) (left place : ℕ) (p : ScanPart) → next ≡ Some low → IsNext s low left place p → to_come s.anchors p.high + 1 ≤ to_come s.anchors next
fewer-behind s next low left place p is part = let come = ap (to_come s.anchors) is in let less = fewer-to-come s.anchors low p.high part.bound in omega (arith, come, less)

-- there are no more of them than members
pub parts-fit : (slots most : ℕ) (m : Map) (anchors : Anchors) (from : List ℕ) → IsShape slots most m anchors → length (past anchors from) + 1 ≤ most
parts-fit slots most m anchors from shape = let few = past-within anchors from shape.ordered in omega (arith, few, shape.few)
