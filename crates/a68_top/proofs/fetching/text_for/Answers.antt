use Rattle.std.proofs.Common.{◌≡◌, ap, sym, ℕ, List, [], ◌∷◌}
use Rattle.a68_command.specs.Commands.{task_of}
use Rattle.a68_command.specs.Words.{files_of_task}
use Rattle.a68_top.proofs.Told.{fetched, made}
use Rattle.a68_top.proofs.fetching.text_for.Goals as goal

pub returns-in-Run-clause-text : goal.returns-in-Run-clause-text
returns-in-Run-clause-text g c =
    let e : files_of_task (task_of c.args.command.now) ≡ c.as_str.result.now ∷ [] = rw c.in-Run.is (ap (λ (f : List ℕ). f ∷ []) (sym c.as_str.ensures)) in
    fetched (task_of c.args.command.now) (g.F.Shelf.under c.args.shelf.now) c.as_str.result.now c.fetch.result e c.fetch.ensures.text c.fetch.ensures.length

pub returns-in-Check-clause-text : goal.returns-in-Check-clause-text
returns-in-Check-clause-text g c =
    let e : files_of_task (task_of c.args.command.now) ≡ c.as_str-in-Check.result.now ∷ [] = rw c.in-Check.is (ap (λ (f : List ℕ). f ∷ []) (sym c.as_str-in-Check.ensures)) in
    fetched (task_of c.args.command.now) (g.F.Shelf.under c.args.shelf.now) c.as_str-in-Check.result.now c.fetch-in-Check.result e c.fetch-in-Check.ensures.text c.fetch-in-Check.ensures.length

pub returns-in-Code-clause-text : goal.returns-in-Code-clause-text
returns-in-Code-clause-text g c =
    let e : files_of_task (task_of c.args.command.now) ≡ c.as_str-in-Code.result.now ∷ [] = rw c.in-Code.is (ap (λ (f : List ℕ). f ∷ []) (sym c.as_str-in-Code.ensures)) in
    fetched (task_of c.args.command.now) (g.F.Shelf.under c.args.shelf.now) c.as_str-in-Code.result.now c.fetch-in-Code.result e c.fetch-in-Code.ensures.text c.fetch-in-Code.ensures.length

pub returns-in-Trace-clause-text : goal.returns-in-Trace-clause-text
returns-in-Trace-clause-text g c =
    let e : files_of_task (task_of c.args.command.now) ≡ c.as_str-in-Trace.result.now ∷ [] = rw c.in-Trace.is (ap (λ (f : List ℕ). f ∷ []) (sym c.as_str-in-Trace.ensures)) in
    fetched (task_of c.args.command.now) (g.F.Shelf.under c.args.shelf.now) c.as_str-in-Trace.result.now c.fetch-in-Trace.result e c.fetch-in-Trace.ensures.text c.fetch-in-Trace.ensures.length

pub returns-in-Races-clause-text : goal.returns-in-Races-clause-text
returns-in-Races-clause-text g c =
    let e : files_of_task (task_of c.args.command.now) ≡ c.as_str-in-Races.result.now ∷ [] = rw c.in-Races.is (ap (λ (f : List ℕ). f ∷ []) (sym c.as_str-in-Races.ensures)) in
    fetched (task_of c.args.command.now) (g.F.Shelf.under c.args.shelf.now) c.as_str-in-Races.result.now c.fetch-in-Races.result e c.fetch-in-Races.ensures.text c.fetch-in-Races.ensures.length

pub returns-in-LayOut-clause-text : goal.returns-in-LayOut-clause-text
returns-in-LayOut-clause-text g c =
    let e : files_of_task (task_of c.args.command.now) ≡ c.as_str-in-LayOut.result.now ∷ [] = rw c.in-LayOut.is (ap (λ (f : List ℕ). f ∷ []) (sym c.as_str-in-LayOut.ensures)) in
    fetched (task_of c.args.command.now) (g.F.Shelf.under c.args.shelf.now) c.as_str-in-LayOut.result.now c.fetch-in-LayOut.result e c.fetch-in-LayOut.ensures.text c.fetch-in-LayOut.ensures.length

pub returns-in-Make-clause-text : goal.returns-in-Make-clause-text
returns-in-Make-clause-text g c = rw c.in-Make.is (made (g.F.Shelf.under c.args.shelf.now) c.in-Make.units _ c.made_text.result c.made_text.ensures.text)
