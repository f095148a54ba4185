-- Looking at one symbol more.
use Rattle.std.proofs.Common.{◌≡◌, ◌≤◌, ◌+◌, ℕ, zero, suc, true, false, List, ◌∷◌, refl, arith}
use Rattle.a68_symbols.specs.declared.sym.Bracket.{Bracket}
use Rattle.a68_symbols.specs.declared.sym.Bracket.TheVariants as b
use Rattle.a68_symbols.specs.declared.sym.Token.{Token}
use Rattle.a68_symbols.specs.declared.sym.Token.TheVariants as t
use Rattle.a68_symbols.specs.declared.sym.Sym.{Sym}
use Rattle.a68_symbols.specs.declared.sym.Sym.TheVariants.{Opens, Closes, Is}
use Rattle.a68_lookahead.specs.Ahead.{word, word_or_void, behind_long, test, named, more, colon, bracket, closing, token, step, behind}
use Rattle.a68_lookahead.specs.declared.look.Due.{Due}
use Rattle.a68_lookahead.specs.declared.look.Due.TheVariants as due
use Rattle.a68_lookahead.specs.declared.look.Landmark.{Landmark}
use Rattle.a68_lookahead.specs.declared.look.Landmark.TheVariants as m
use Rattle.a68_lookahead.specs.declared.look.Look.{Look}
use Rattle.a68_lookahead.specs.declared.look.Look.TheVariants.{Goes, Found, Missed}

module _ (sought : Landmark) (n : ℕ) (d : Due) (s : Sym) (text : List Sym) where
  pub goes : (m : ℕ) (e : Due) → step sought n d s ≡ Goes m e → behind sought n d (s ∷ text) ≡ behind sought m e text
  goes m e is = rw (behind, is) refl

  pub found : step sought n d s ≡ Found → behind sought n d (s ∷ text) ≡ true
  found is = rw (behind, is) refl

  pub missed : step sought n d s ≡ Missed → behind sought n d (s ∷ text) ≡ false
  missed is = rw (behind, is) refl

-- looking goes on within so many brackets at most
abbrev pub Within : ℕ → Look → Type 0
Within n (Goes m e) = m ≤ n
Within n Found = Unit {0}
Within n Missed = Unit {0}

word_within : (s : Token) → Within 1 (word s)
word_within t.Int = omega arith
word_within t.Plain = omega arith
word_within t.Long = omega arith
word_within t.ModeWord = omega arith
word_within t.Ref = omega arith
word_within t.Flex = omega arith
word_within t.Struct = omega arith
word_within t.Union = omega arith
word_within t.Proc = omega arith
word_within _ = tt

word_or_void_within : (s : Token) → Within 1 (word_or_void s)
word_or_void_within t.Void = omega arith
word_or_void_within s = word_within s

behind_long_within : (s : Token) → Within 1 (behind_long s)
behind_long_within t.Int = omega arith
behind_long_within _ = tt

test_within : (sought : Landmark) (s : Token) → Within 1 (test sought s)
test_within m.Colon t.Colon = tt
test_within m.Tag t.Tag = tt
test_within m.Parameters t.Tag = omega arith
test_within m.Spec t.Tag = omega arith
test_within _ _ = tt

named_within : (sought : Landmark) (s : Token) → Within 1 (named sought s)
named_within m.Parameters t.Comma = omega arith
named_within _ _ = tt

more_within : (s : Token) → Within 1 (more s)
more_within t.Tag = omega arith
more_within s = word_within s

colon_within : (s : Token) → Within 1 (colon s)
colon_within t.Colon = tt
colon_within _ = tt

bracket_within : (d : Due) (o : Bracket) → Within 1 (bracket d o)
bracket_within due.Declarer b.Square = omega arith
bracket_within due.Result b.Square = omega arith
bracket_within due.Procedure b.Square = omega arith
bracket_within due.Procedure b.Round = omega arith
bracket_within due.Fields b.Round = omega arith
bracket_within due.More b.Square = omega arith
bracket_within _ _ = tt

closing_within : (sought : Landmark) (d : Due) (o : Bracket) → Within 1 (closing sought d o)
closing_within m.Parameters due.Named b.Round = tt
closing_within m.Spec due.Ended b.Round = tt
closing_within m.Spec due.Named b.Round = omega arith
closing_within _ _ _ = tt

token_within : (sought : Landmark) (d : Due) (s : Token) → Within 1 (token sought d s)
token_within sought due.Declarer s = word_within s
token_within sought due.Result s = word_or_void_within s
token_within sought due.Procedure s = word_or_void_within s
token_within sought due.Fields s = tt
token_within sought due.Ended s = test_within sought s
token_within sought due.Named s = named_within sought s
token_within sought due.More s = more_within s
token_within sought due.Colon s = colon_within s
token_within sought due.Long s = behind_long_within s

pub step_within : (sought : Landmark) (n : ℕ) (d : Due) (s : Sym) → Within (n + 1) (step sought n d s)
step_within sought zero d (Opens o) = bracket_within d o
step_within sought zero d (Closes o) = closing_within sought d o
step_within sought zero d (Is s) = token_within sought d s
step_within sought (suc n) d (Opens o) = omega arith
step_within sought (suc n) d (Closes o) = omega arith
step_within sought (suc n) d (Is s) = omega arith
