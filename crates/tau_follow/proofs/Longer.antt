-- A reader has gone on, and goes back.
use Rattle.std.proofs.Common.{ℕ, ◌≡◌, inl, inr, List, [], ◌∷◌, ◌++◌, length, take, drop, None, Ok, refl, sym, ap, ◌∙◌, arith, append_assoc}
use Rattle.std.proofs.lemmas.List.{append-nil}
use Rattle.tau_record.specs.declared.entry.Placed.{Placed}
use Rattle.tau_record.specs.Format.{Format}
use Rattle.tau_record.specs.Content.{content_at}
use Rattle.tau_text.specs.declared.load.Declarations.{Declarations}
use Rattle.tau_scan.specs.Reading.{declared_by, catalogue_of}
use Rattle.tau_epoch_laws.proofs.Records.{content_stands}
use Rattle.tau_follow_laws.proofs.Rises.{stand_low}
use Rattle.tau_follow.specs.declared.reader.Reader.{Reader}
use Rattle.tau_follow.specs.Reading.{IsGoing, IsRead, BeginsWith, IsLonger}

pub begins_itself : {A : Type 0} (xs ys : List A) → ys ≡ xs → BeginsWith xs ys
begins_itself xs ys e = ([], e ∙ sym (append-nil xs))

pub begins_then : {A : Type 0} (xs ys zs : List A) → BeginsWith xs ys → BeginsWith ys zs → BeginsWith xs zs
begins_then xs ys zs g h = (g.0 ++ h.0, h.1 ∙ ap (λ (l : List _). l ++ h.0) g.1 ∙ append_assoc xs g.0 h.0)

pub front_taken : {A : Type 0} (xs ys : List A) (n : ℕ) → n ≡ length xs → BeginsWith xs ys → take n ys ≡ xs
front_taken xs ys n e h = ap (λ (k : ℕ). take k ys) e ∙ ap (take (length xs)) h.1 ∙ by xs
  where
    by : (l : List _) → take (length l) (l ++ h.0) ≡ l
    by [] = refl
    by (x ∷ l) = ap (λ (m : List _). x ∷ m) (by l)

pub longer_then : (r t u : Reader) (ps qs rs : List Placed) → IsLonger r t ps qs → IsLonger t u qs rs → IsLonger r u ps rs
longer_then r t u ps qs rs g h =
    let low = g.at in
    let high = h.at in
    record {
      records = begins_then ps qs rs g.records h.records;
      vectors = begins_then r.vectors.items t.vectors.items u.vectors.items g.vectors h.vectors;
      at = omega (arith, low, high);
      declared = (elim g.declared [
        | inl none ↦ inl none
        | inr same ↦ (elim h.declared [ inl zero_now ↦ inl (omega (arith, low, zero_now)) | inr again ↦ inr (again ∙ same) ])
      ]);
    }

nothing_read : (f : Format) (n : ℕ) (front : List ℕ) (ps : List Placed) → content_at f n front ≡ Ok ps → length front ≡ 0 → ps ≡ []
nothing_read f n front [] e none = refl
nothing_read f n front (p ∷ ps) e none =
    let h = content_stands f n front (p ∷ ps) e in
    let low = h.1 in
    let rest = stand_low p.past (length front) ps h.2 in
    absurd (omega (arith, low, rest, none))

-- where nothing is read nothing is declared
pub declared_none : (f : Format) (n : ℕ) (content : List ℕ) (r : Reader) (ps : List Placed) (none : Declarations) → IsGoing f n content ps r 0 → r.at ≡ 0 → none ≡ declared_by None → none ≡ r.declarations
declared_none f n content r ps none g zero_at none_is =
    let at_start : length g.front ≡ 0 = sym g.place ∙ zero_at in
    none_is ∙ sym (g.declarations ∙ ap (λ (l : List Placed). declared_by (catalogue_of l)) (nothing_read f n g.front ps g.read at_start))

pub read_undone : (f : Format) (n : ℕ) (content : List ℕ) (r t : Reader) (ps : List Placed) → IsRead f n content ps r → t.rest.items ≡ r.rest.items → t.at ≡ r.at → t.vectors.items ≡ r.vectors.items → t.last ≡ r.last → t.declarations ≡ r.declarations → t.lacks ≡ 0 → IsRead f n content ps t
read_undone f n content r t ps h rest at vectors last declarations none =
    let g = h.going in
    record {
      going = record {
        front = g.front;
        parts = g.parts ∙ ap (λ (l : List ℕ). g.front ++ drop 0 l) (sym rest);
        read = g.read;
        declared = g.declared;
        place = at ∙ g.place;
        vectors = vectors ∙ g.vectors;
        last = last ∙ g.last;
        declarations = declarations ∙ g.declarations;
        within = omega arith;
      };
      wants = omega (arith, none);
    }
