-- What the front of a text gives is one.
use Rattle.std.proofs.Common.{◌≡◌, ℕ, ◌-◌, ◌≤◌, Bool, List, [], ◌∷◌, ◌++◌, length, slice_index, take, refl, sym, ap, subst, ◌∙◌, inl, inr, arith}
use Rattle.a68_denote.specs.Strings.{IsQuoted}
use Rattle.a68_symbols.specs.declared.form.StretchForm.{StretchForm}
use Rattle.a68_symbols.specs.declared.form.StretchForm.TheVariants.{Layout, SharpComment, WordComment, OpenComment, Word, Tag, Number, Quoted, OpenString, Mark}
use Rattle.a68_symbols.specs.declared.form.Given.{Given}
use Rattle.a68_symbols.specs.Forms.{Is, IsRun, IsSharpComment, IsOpenComment, IsWordComment, IsOpenString, Longest}
use Rattle.a68_symbols.specs.Gives.{gives}
use Rattle.a68_symbols.specs.Symbols.{Front, front_none, front_is}
use Rattle.a68_symbols.specs.Bytes.{is_capital, in_word}
use Rattle.a68_symbols.proofs.Starts.{start_of, one_start, begins, is_some}
use Rattle.a68_symbols.proofs.Items.{furthest}
use Rattle.a68_symbols.proofs.Again.{true≢false}
use Rattle.std.proofs.lemmas.List.{length-append, append-nil}

no_word : (text : List ℕ) (n : ℕ) → n ≤ length text → IsRun is_capital in_word in_word text n → IsWordComment text n → ⊥
no_word text n le w i = elim i.opens.ends [
  | inl all ↦ omega (arith, all, i.whole, i.behind, i.opens.some, le)
  | inr out ↦ true≢false _ (w.goes_on i.width (omega (arith, i.opens.some)) (omega (arith, i.whole, i.behind, i.opens.some))) out
]

no_sharp : (text : List ℕ) (n : ℕ) → IsSharpComment text n → IsOpenComment text n → ⊥
no_sharp text n i j = j.inside (n - 1) (omega (arith, i.two)) (omega (arith, i.two)) i.closes

no_string : (text : List ℕ) (n : ℕ) → IsQuoted (take n text) → IsOpenString text n → ⊥
no_string text n q i =
    let d = q.1 in
    let e : ◌≡◌ {A = List ℕ} (34 ∷ d.items ++ 34 ∷ []) (34 ∷ i.items) = sym d.spelled ∙ i.spelled in
    let tail : d.items ++ 34 ∷ [] ≡ i.items = cc in
    elim (furthest d.stand_for i.stand_for (34 ∷ []) [] (tail ∙ sym (append-nil i.items)) refl) [
      | inl lt ↦ omega (arith, lt, ap length tail, length-append d.items (34 ∷ []))
      | inr same ↦ let f = same.1 in cc
    ]

one_form : (f g : StretchForm) (text : List ℕ) (n : ℕ) → n ≤ length text → start_of g ≡ start_of f → Is f text n → Is g text n → g ≡ f
one_form Layout Layout text n le e i j = refl
one_form SharpComment SharpComment text n le e i j = refl
one_form SharpComment OpenComment text n le e i j = absurd (no_sharp text n i j)
one_form OpenComment SharpComment text n le e i j = absurd (no_sharp text n j i)
one_form OpenComment OpenComment text n le e i j = refl
one_form WordComment WordComment text n le e i j = refl
one_form WordComment Word text n le e i j = absurd (no_word text n le j i)
one_form Word WordComment text n le e i j = absurd (no_word text n le i j)
one_form Word Word text n le e i j = refl
one_form Tag Tag text n le e i j = refl
one_form Number Number text n le e i j = refl
one_form Quoted Quoted text n le e i j = refl
one_form Quoted OpenString text n le e i j = absurd (no_string text n i j)
one_form OpenString Quoted text n le e i j = absurd (no_string text n j i)
one_form OpenString OpenString text n le e i j = refl
one_form Mark Mark text n le e i j = refl
one_form _ _ text n le e i j = cc

same_length : (text : List ℕ) (f g : StretchForm) (n m : ℕ) → Longest text f n → Longest text g m → m ≡ n
same_length text f g n m a b =
    let up : n ≤ m = b.longest f n a.within a.is in
    let down : m ≤ n = a.longest g m b.within b.is in
    omega arith

same_form : (text : List ℕ) (f g : StretchForm) (n m : ℕ) → Longest text f n → Longest text g m → g ≡ f
same_form text f g n m a b =
    let here : Is g text n = subst (λ (k : ℕ). Is g text k) (same_length text f g n m a b) b.is in
    one_form f g text n a.within (one_start (start_of f) (start_of g) (slice_index text 0) (begins f text n a.is) (begins g text m b.is)) a.is here

pub one_front : {long : Bool} {text : List ℕ} {g h : Given} {n m : ℕ} → Front long text g n → Front long text h m → (h ≡ g) × (m ≡ n)
one_front (front_none some none) (front_none some' none') = (refl, refl)
one_front (front_none some none) (front_is {f = f} {n = n} l e) = absurd (none f n l.within l.is)
one_front (front_is {f = f} {n = n} l e) (front_none some none) = absurd (none f n l.within l.is)
one_front {long} {text} (front_is {f = f} {n = n} l e) (front_is {f = f'} {n = m} l' e') =
    let width = same_length text f f' n m l l' in
    let form = same_form text f f' n m l l' in
    (sym e' ∙ ap (λ (k : StretchForm). gives long k (take m text)) form ∙ ap (λ (k : ℕ). gives long f (take k text)) width ∙ e, width)

pub no_front : {long : Bool} {g : Given} {n : ℕ} → Front long [] g n → ⊥
no_front (front_none some none) = omega arith
no_front (front_is {f = f} {n = n} l e) = omega (arith, l.within, is_some f [] n l.is)
