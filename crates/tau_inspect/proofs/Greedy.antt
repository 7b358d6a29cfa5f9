-- Lines that are read as long as they are of one kind: what they leave.
use Rattle.std.proofs.Common.{ℕ, ◌≡◌, true, List, [], ◌∷◌, ◌++◌, map, refl, sym, ap, subst, ◌∙◌, append_assoc}
use Rattle.std.proofs.lemmas.List.{append-nil}
use Rattle.std.specs.List.{flat_map, AllByRecursion}
use Rattle.std.proofs.lemmas.List.Concat.{flat_map-cons}
use Rattle.tau_inspect.specs.Parts.{lacks}
use Rattle.tau_inspect.specs.Sections.{IsLine, Apart, BeginsAlike}
use Rattle.tau_inspect.proofs.Cutting.{cut_one}

-- what is left: lines of such elements, whose keys go with those that were read
pub record Left {A K : Type 0} (f : A → List ℕ) (Fits : A → Type 0) (key : A → K) (Joint : List K → Type 0) (done : List K) (more rest : List ℕ) : Type 0 where
  pub ys : List A
  pub fit : AllByRecursion Fits ys
  pub joint : Joint (done ++ map key ys)
  pub is : rest ≡ flat_map f ys ++ more

abbrev pub Going : {A K : Type 0} → (A → List ℕ) → (A → Type 0) → (A → K) → (List K → Type 0) → ℕ → List ℕ → List K → List ℕ → Type 0
Going {A} f Fits key Joint byte text done rest = (xs : List A) (more : List ℕ) → AllByRecursion Fits xs → Joint (map key xs) → text ≡ flat_map f xs ++ more → Apart byte more → Left f Fits key Joint done more rest

pub going_start : {A K : Type 0} (f : A → List ℕ) (Fits : A → Type 0) (key : A → K) (Joint : List K → Type 0) (byte : ℕ) (text : List ℕ) → Going f Fits key Joint byte text [] text
going_start f Fits key Joint byte text = λ xs more fit joint e apart. record { ys = xs; fit = fit; joint = joint; is = e }

module _ {A K : Type 0} (f body : A → List ℕ) (Fits : A → Type 0) (key : A → K) (Joint : List K → Type 0) (byte : ℕ)
    (is_line : (a : A) → f a ≡ body a ++ 10 ∷ []) (lack : (a : A) → Fits a → lacks 10 (body a) ≡ true) (starts : (a : A) (rest : List ℕ) → Apart byte (body a ++ rest) → ⊥) where
  head_is : (y : A) (ys : List A) (more : List ℕ) → flat_map f (y ∷ ys) ++ more ≡ body y ++ 10 ∷ (flat_map f ys ++ more)
  head_is y ys more =
      ap (λ (l : List ℕ). l ++ more) (flat_map-cons f y ys ∙ ap (λ (l : List ℕ). l ++ flat_map f ys) (is_line y))
      ∙ append_assoc (body y ++ 10 ∷ []) (flat_map f ys) more ∙ append_assoc (body y) (10 ∷ []) (flat_map f ys ++ more)

  -- one more that was read
  module _ (done : List K) (rest line behind : List ℕ) (a : A) (l : IsLine rest line behind) (e : body a ≡ line) (same : (y : A) → Fits y → body y ≡ line → key y ≡ key a) where
    next_left : (more : List ℕ) → Apart byte more → (ys : List A) → AllByRecursion Fits ys → Joint (done ++ map key ys) → rest ≡ flat_map f ys ++ more → Left f Fits key Joint (done ++ key a ∷ []) more behind
    next_left more apart [] fit joint is = absurd (starts a (10 ∷ behind) (subst (Apart byte) (sym is ∙ l.is ∙ ap (λ (t : List ℕ). t ++ 10 ∷ behind) (sym e)) apart))
    next_left more apart (y ∷ ys) fit joint is =
        let cut = cut_one 10 (body y) line (flat_map f ys ++ more) behind (lack y fit.0) l.one (sym (head_is y ys more) ∙ sym is ∙ l.is) in
        record {
          ys = ys;
          fit = fit.1;
          joint = subst Joint (ap (λ (k : K). done ++ k ∷ map key ys) (same y fit.0 cut.0) ∙ sym (append_assoc done (key a ∷ []) (map key ys))) joint;
          is = sym cut.1;
        }

    pub going_on : (text : List ℕ) → Going f Fits key Joint byte text done rest → Going f Fits key Joint byte text (done ++ key a ∷ []) behind
    going_on text g = λ xs more fit joint is apart. (let w = g xs more fit joint is apart in next_left more apart w.ys w.fit w.joint w.is)

  -- nothing more is read
  module _ (done : List K) (rest : List ℕ) (stop : (y : A) (ys : List A) (tail : List ℕ) → Fits y → Joint (done ++ key y ∷ map key ys) → rest ≡ body y ++ 10 ∷ tail → ⊥) where
    none_left : (more : List ℕ) (ys : List A) → AllByRecursion Fits ys → Joint (done ++ map key ys) → rest ≡ flat_map f ys ++ more → rest ≡ more
    none_left more [] fit joint is = is
    none_left more (y ∷ ys) fit joint is = absurd (stop y ys (flat_map f ys ++ more) fit.0 joint (is ∙ head_is y ys more))

    pub going_end : (text : List ℕ) → Going f Fits key Joint byte text done rest → (xs : List A) (more : List ℕ) → AllByRecursion Fits xs → Joint (map key xs) → text ≡ flat_map f xs ++ more → Apart byte more → rest ≡ more
    going_end text g xs more fit joint is apart = (let w = g xs more fit joint is apart in none_left more w.ys w.fit w.joint w.is)

  -- what stands after the lines of these elements is left after them
  going_over : (done : List K) (xs : List A) (text other : List ℕ) → ((y a : A) → Fits y → Fits a → body y ≡ body a → key y ≡ key a) → AllByRecursion Fits xs →
      Going f Fits key Joint byte text done (flat_map f xs ++ other) → Going f Fits key Joint byte text (done ++ map key xs) other
  going_over done [] text other same fit g = subst (λ (ks : List K). Going f Fits key Joint byte text ks other) (sym (append-nil done)) g
  going_over done (x ∷ xs) text other same fit g =
      let on = going_on done (flat_map f (x ∷ xs) ++ other) (body x) (flat_map f xs ++ other) x (record { is = head_is x xs other; one = lack x fit.0 }) refl (λ y fy e. same y x fy fit.0 e) text g in
      subst (λ (ks : List K). Going f Fits key Joint byte text ks other) (append_assoc done (key x ∷ []) (map key xs)) (going_over (done ++ key x ∷ []) xs text other same fit.1 on)

  pub reads_all : (xs : List A) (rest : List ℕ) → AllByRecursion Fits xs → ((y a : A) → Fits y → Fits a → body y ≡ body a → key y ≡ key a) →
      ((y : A) (ys : List A) (tail : List ℕ) → Fits y → Joint (map key xs ++ key y ∷ map key ys) → rest ≡ body y ++ 10 ∷ tail → ⊥) →
      (other : List ℕ) → BeginsAlike rest other → (zs : List A) (more : List ℕ) → AllByRecursion Fits zs → Joint (map key zs) → flat_map f xs ++ other ≡ flat_map f zs ++ more → Apart byte more → other ≡ more
  reads_all xs rest fit same stop other alike zs more fits joint is apart =
      going_end (map key xs) other
      (λ y ys tail fy j e. let w = alike.line (body y) tail (record { is = e; one = lack y fy }) in stop y ys w.0 fy j w.1.is)
      (flat_map f xs ++ other) (going_over [] xs (flat_map f xs ++ other) other same fit (going_start f Fits key Joint byte (flat_map f xs ++ other))) zs more fits joint is apart

-- ---- what does not begin with a byte

pub apart_lines : {A : Type 0} (f : A → List ℕ) (byte : ℕ) (more : List ℕ) → ((a : A) (rest : List ℕ) → Apart byte (f a ++ rest)) → Apart byte more → (xs : List A) → Apart byte (flat_map f xs ++ more)
apart_lines f byte more each apart [] = apart
apart_lines f byte more each apart (x ∷ xs) = subst (Apart byte) (sym (ap (λ (l : List ℕ). l ++ more) (flat_map-cons f x xs) ∙ append_assoc (f x) (flat_map f xs) more)) (each x (flat_map f xs ++ more))
