-- What a turn of the loop does with what a stretch gives.
use Rattle.std.proofs.Common.{◌≡◌, ℕ, ◌+◌, ◌-◌, ◌≤◌, Bool, List, length, take, drop, Ok, Err, refl, arith}
use Rattle.a68_base.specs.declared.refusal.Rule.TheVariants.{L2}
use Rattle.a68_base.specs.declared.refusal.Stop.{Stop}
use Rattle.a68_base.specs.declared.refusal.Stop.TheVariants.{Refused, NoMemory}
use Rattle.a68_symbols.specs.declared.form.Given.{Given}
use Rattle.a68_symbols.specs.declared.form.Given.TheVariants.{Nothing, Symbol, Broken}
use Rattle.a68_symbols.specs.Names.{Named, stretch_of}
use Rattle.a68_symbols.specs.Steps.{Keeps}
use Rattle.a68_symbols.specs.Symbols.{Front, stop_broken, stop_full, Collects}
use Rattle.a68_symbols.proofs.Cutting.{SoFar, goes_past, takes, refused_at}
use Rattle.a68_symbols.proofs.Numbered.{SoNamed, one_more}

-- cut and named
pub record Done (bytes : List ℕ) (long : Bool) (at : ℕ) (rest : List ℕ) (found : Named) : Type 0 where
  pub cut : SoFar bytes long at rest found.symbols
  pub named : SoNamed bytes found.symbols found.spellings

module _ (bytes rest rest' s : List ℕ) (long : Bool) (at n : ℕ) (old new : Named) (d : Done bytes long at rest old) (le : n ≤ length rest) (front : s ≡ take n rest) (behind : rest' ≡ drop n rest) where
  here : s ≡ stretch_of bytes (record { from = at; to = at + n })
  here = let e : at + n - at ≡ n = omega arith in rw (e, ← d.cut.place) front

  pub goes_on : (g : Given) (after : Bool) → Front long rest g n → Keeps long old new g s (record { from = at; to = at + n }) (Ok after) → Done bytes after (at + n) rest' new
  goes_on Nothing after f k = rw (k.0, k.1) (record { cut = goes_past bytes long at rest rest' old.symbols n d.cut le f behind; named = d.named })
  goes_on (Symbol kind) after f k =
      let a = k.2 in
      record {
        cut = rw (k.0, front) (takes bytes long at rest rest' old.symbols new.symbols n a.name kind d.cut le f behind k.1 a.symbols);
        named = one_more bytes old new kind _ _ a (rw here refl) d.named;
      }
  goes_on (Broken rule) after f k = absurd k

  pub ends_with : (g : Given) (stop : Stop) → Front long rest g n → Keeps long old new g s (record { from = at; to = at + n }) (Err stop) → Collects bytes new (Err stop)
  ends_with g NoMemory f k = tt
  ends_with Nothing (Refused refusal) f k = absurd k
  ends_with (Symbol kind) (Refused refusal) f k = rw k.1 (refused_at bytes L2 at d.cut.short (d.cut.stops L2 at (stop_full f k.0)))
  ends_with (Broken rule) (Refused refusal) f k = rw k (refused_at bytes rule at d.cut.short (d.cut.stops rule at (stop_broken f)))
