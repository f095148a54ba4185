-- The flags of a symbol tell what it is defined as.
use Rattle.std.proofs.Common.{◌≡◌, ◌≢◌, ℕ, zero, suc, ◌+◌, ◌<◌, ◌⊎◌, inl, inr, Bool, true, false, ◌&&◌, ◌||◌, List, [], ◌∷◌, Option, None, Some, refl, ap, sym, subst, ◌∙◌, arith, add-one, if◌then◌else◌}
use Rattle.std.specs.Prelude.{◌↔◌}
use Rattle.a68_words.specs.declared.class.Class.{Class}
use Rattle.a68_words.specs.declared.class.Class.TheVariants.{Reserved, ModeWord, OperatorWord}
use Rattle.a68_words.specs.declared.role.Role.{Role}
use Rattle.a68_words.specs.declared.role.Role.TheVariants.{Round, Comma, Mode, Prio, Op, Equals, Other}
use Rattle.a68_words.specs.declared.levels.OpenLevel.{OpenLevel}
use Rattle.a68_words.specs.Roles.{is_definable, definer}
use Rattle.a68_words.specs.Levels.{Level, passed_by, at_role, behind_role, role_at, levels_before, levels_at, innermost, level_of}
use Rattle.a68_words.specs.Definitions.{Defines, SameLevel}
use Rattle.a68_words.specs.Definitions.Defines.{behind_mode, behind_prio, behind_op, before_equals, joined}
use Rattle.a68_words.specs.Steps.{newly, new_last, new_waits, role_before, is_op, is_round, is_equals, is_mode, is_comma, is_operator_definer, is_mode_word, is_operator_word, as_mode, as_operator}
use Rattle.a68_words.proofs.Latest.{IsLatest, SaysLast, said, known}
use Rattle.a68_words.proofs.Telling.{IsTold}

pub both : (a b : Bool) → a && b ≡ true → (a ≡ true) × (b ≡ true)
both true b e = (refl, e)
both false b e = absurd (cc)

pub either : (a b : Bool) → a || b ≡ true → (a ≡ true) ⊎ (b ≡ true)
either true b e = inl refl
either false b e = inr e

pub and_true : (a b : Bool) → a ≡ true → b ≡ true → a && b ≡ true
and_true true b p q = q
and_true false b p q = absurd (cc)

pub or_left : (a b : Bool) → a ≡ true → a || b ≡ true
or_left true b p = refl
or_left false b p = absurd (cc)

pub or_right : (a b : Bool) → b ≡ true → a || b ≡ true
or_right true b p = refl
or_right false b p = p

mode_is : (r : Role) → is_mode r ≡ true → r ≡ Mode
mode_is Mode e = refl
mode_is _ e = absurd (cc)

op_is : (r : Role) → is_op r ≡ true → r ≡ Op
op_is Op e = refl
op_is _ e = absurd (cc)

round_is : (r : Role) → is_round r ≡ true → r ≡ Round
round_is Round e = refl
round_is _ e = absurd (cc)

comma_is : (r : Role) → is_comma r ≡ true → r ≡ Comma
comma_is Comma e = refl
comma_is _ e = absurd (cc)

equals_is : (r : Role) → is_equals r ≡ true → r ≡ Equals
equals_is Equals e = refl
equals_is _ e = absurd (cc)

operator_definer_is : (r : Role) → is_operator_definer r ≡ true → (r ≡ Prio) ⊎ (r ≡ Op)
operator_definer_is Prio e = inl refl
operator_definer_is Op e = inr refl
operator_definer_is _ e = absurd (cc)

mode_word_is : (o : Option Class) → is_mode_word o ≡ true → o ≡ Some ModeWord
mode_word_is (Some ModeWord) e = refl
mode_word_is (Some Reserved) e = absurd (cc)
mode_word_is (Some OperatorWord) e = absurd (cc)
mode_word_is None e = absurd (cc)

operator_word_is : (o : Option Class) → is_operator_word o ≡ true → o ≡ Some OperatorWord
operator_word_is (Some OperatorWord) e = refl
operator_word_is (Some Reserved) e = absurd (cc)
operator_word_is (Some ModeWord) e = absurd (cc)
operator_word_is None e = absurd (cc)

newly_some : (o : Option Class) (class : Class) → newly o ≡ Some (Some class) → o ≡ Some class
newly_some None class e = absurd (cc)
newly_some (Some other) class e = cc

newly_none : (o : Option Class) → newly o ≡ None → o ≡ None
newly_none None e = refl
newly_none (Some other) e = absurd (cc)

before_is : (roles : List Role) (i k : ℕ) → k + 1 ≡ i → role_before roles i ≡ role_at roles k
before_is roles i k e = ap (role_before roles) (sym e ∙ add-one k)

stands_before : (roles : List Role) (i : ℕ) (r : Role) → r ≢ Other → role_before roles i ≡ r → (k : ℕ) × (k + 1 ≡ i) × (role_at roles k ≡ r)
stands_before roles zero r n e = absurd (n (sym e))
stands_before roles (suc i) r n e = (i, add-one i, e)

-- the definer that counts stands at the level of i
definer_there : (roles : List Role) (i : ℕ) (level : OpenLevel) (class : Class) → level_of roles i ≡ level.begins → IsTold roles i level
    → level.last ≡ Some class → (j : ℕ) → is_definable (role_at roles i) ≡ true → j + 1 ≡ i → role_at roles j ≡ Comma
    → role_at roles (i + 1) ≡ Equals → Defines roles i class
definer_there roles i level class same told last j d e c n =
    let r = said (λ (k : ℕ). new_last (role_at roles k)) (level_of roles) level.begins None i level.last (λ none. absurd (cc (none, last))) told.last in
    joined j r.at d e c n r.before (newly_some (definer (role_at roles r.at)) class (r.says ∙ ap Some last)) (r.same ∙ sym same)
    (λ m low high s. newly_none (definer (role_at roles m)) (r.none m low high (s ∙ same)))

definer_counts : (roles : List Role) (i : ℕ) (level : OpenLevel) (class : Class) → level_of roles i ≡ level.begins → IsTold roles i level
    → (k : ℕ) → k < i → definer (role_at roles k) ≡ Some class → SameLevel roles k i
    → ((m : ℕ) → k < m → m < i → SameLevel roles m i → definer (role_at roles m) ≡ None) → level.last ≡ Some class
definer_counts roles i level class same told k h def s none =
    known (λ (k : ℕ). new_last (role_at roles k)) (level_of roles) level.begins None i level.last (Some class) told.last (record {
      at = k;
      before = h;
      same = s ∙ same;
      says = ap newly def;
      none = λ m low high t. ap newly (none m low high (t ∙ sym same));
    })

mode_there : (roles : List Role) (i : ℕ) (level : OpenLevel) → level_of roles i ≡ level.begins → IsTold roles i level
    → as_mode (role_before roles i) (role_at roles i) (role_at roles (i + 1)) level ≡ true → Defines roles i ModeWord
mode_there roles i level same told e =
    let previous = role_before roles i in
    let next = role_at roles (i + 1) in
    let p = both (is_definable (role_at roles i)) (is_mode previous || (is_comma previous && (is_equals next && is_mode_word level.last))) e in
    elim (either (is_mode previous) (is_comma previous && (is_equals next && is_mode_word level.last)) p.1) [
      | inl m ↦
          let s = stands_before roles i Mode (λ c. absurd (cc (c))) (mode_is previous m) in
          behind_mode s.0 p.0 s.1 s.2
      | inr m ↦
          let q = both (is_comma previous) (is_equals next && is_mode_word level.last) m in
          let r = both (is_equals next) (is_mode_word level.last) q.1 in
          let s = stands_before roles i Comma (λ c. absurd (cc (c))) (comma_is previous q.0) in
          definer_there roles i level ModeWord same told (mode_word_is level.last r.1) s.0 p.0 s.1 s.2 (equals_is next r.0)
    ]

mode_flag : (roles : List Role) (i : ℕ) (level : OpenLevel) → level_of roles i ≡ level.begins → IsTold roles i level
    → Defines roles i ModeWord → as_mode (role_before roles i) (role_at roles i) (role_at roles (i + 1)) level ≡ true
mode_flag roles i level same told (behind_mode k d e m) =
    and_true (is_definable (role_at roles i)) _ d (or_left (is_mode (role_before roles i)) _ (ap is_mode (before_is roles i k e ∙ m)))
mode_flag roles i level same told (joined j k d e c n h def s none) =
    and_true (is_definable (role_at roles i)) _ d (or_right (is_mode (role_before roles i)) _
    (and_true (is_comma (role_before roles i)) _ (ap is_comma (before_is roles i j e ∙ c))
    (and_true (is_equals (role_at roles (i + 1))) _ (ap is_equals n) (ap is_mode_word (definer_counts roles i level ModeWord same told k h def s none)))))

-- the first flag
pub mode_defined : (roles : List Role) (i : ℕ) (level : OpenLevel) → level_of roles i ≡ level.begins → IsTold roles i level
    → (as_mode (role_before roles i) (role_at roles i) (role_at roles (i + 1)) level ≡ true) ↔ Defines roles i ModeWord
mode_defined roles i level same told = (mode_there roles i level same told, mode_flag roles i level same told)

passed_innermost : (b : Bool) (levels : List Level) → innermost (passed_by b levels) ≡ innermost levels
passed_innermost b [] = refl
passed_innermost b (level ∷ more) = refl

-- a ( directly behind OP is a symbol of the same level
level_next : (roles : List Role) (k : ℕ) → role_at roles k ≡ Op → role_at roles (k + 1) ≡ Round → level_of roles (k + 1) ≡ level_of roles k
level_next roles k op round =
    ap (λ (r : Role). innermost (at_role r (levels_before roles (k + 1)))) round
    ∙ ap (λ (n : ℕ). innermost (levels_before roles n)) (add-one k)
    ∙ ap (λ (r : Role). innermost (behind_role k r (levels_at roles k))) op
    ∙ passed_innermost false (levels_at roles k)

waits_begins : (e o r : Bool) → (if e then Some false else (if o && r then Some true else None)) ≡ Some true → (o ≡ true) × (r ≡ true)
waits_begins true o r h = absurd (cc)
waits_begins false false r h = absurd (cc)
waits_begins false true false h = absurd (cc)
waits_begins false true true h = (refl, refl)

waits_ends : (e o : Bool) → (if e then Some false else (if o then Some true else None)) ≡ Some false → e ≡ true
waits_ends true o h = refl
waits_ends false true h = absurd (cc)
waits_ends false false h = absurd (cc)

next_or_behind : (k m : ℕ) → k < m → (m ≡ k + 1) ⊎ (k + 1 < m)
next_or_behind k m h = grind arith

order : (a b : ℕ) → (a < b) ⊎ ((a ≡ b) ⊎ (b < a))
order a b = grind arith

-- an OP directly before ( is where an = is first waited for
op_there : (roles : List Role) (at : ℕ) → new_waits (role_before roles at) (role_at roles at) ≡ Some true
    → (k : ℕ) × (k + 1 ≡ at) × (role_at roles k ≡ Op) × (role_at roles (k + 1) ≡ Round)
op_there roles at says =
    let b = waits_begins (is_equals (role_at roles at)) (is_op (role_before roles at)) (is_round (role_at roles at)) says in
    let s = stands_before roles at Op (λ c. absurd (cc (c))) (op_is (role_before roles at) b.0) in
    (s.0, s.1, s.2, ap (role_at roles) s.1 ∙ round_is (role_at roles at) b.1)

-- behind it no = stands at its level, where none has ended the wait
no_equals : (roles : List Role) (i k at m b : ℕ) → k + 1 ≡ at → role_at roles (k + 1) ≡ Round
    → ((m : ℕ) → at < m → m < i → level_of roles m ≡ b → new_waits (role_before roles m) (role_at roles m) ≡ None)
    → k < m → m < i → level_of roles m ≡ b → role_at roles m ≢ Equals
no_equals roles i k at m b follows round none low high s equals =
    elim (next_or_behind k m low) [
      | inl e ↦ let is : role_at roles m ≡ Round = ap (role_at roles) e ∙ round in absurd (cc (is, equals))
      | inr far ↦
          let silent = none m (omega arith) high s in
          let ends : new_waits (role_before roles m) (role_at roles m) ≡ Some false = ap (new_waits (role_before roles m)) equals in
          absurd (cc (silent, ends))
    ]

waits_from : (roles : List Role) (i b : ℕ) → level_of roles i ≡ b
    → SaysLast (λ k. new_waits (role_before roles k) (role_at roles k)) (level_of roles) b i true
    → is_definable (role_at roles i) ≡ true → role_at roles (i + 1) ≡ Equals → Defines roles i OperatorWord
waits_from roles i b same r d n = from (op_there roles r.at r.says)
  where
    from : ((k : ℕ) × (k + 1 ≡ r.at) × (role_at roles k ≡ Op) × (role_at roles (k + 1) ≡ Round)) → Defines roles i OperatorWord
    from (k, follows, op, round) =
        let before : r.at < i = r.before in
        let level_is : level_of roles k ≡ level_of roles i = sym (level_next roles k op round) ∙ ap (level_of roles) follows ∙ r.same ∙ sym same in
        before_equals k d n (omega arith) op round level_is
        (λ m low high t. no_equals roles i k r.at m b follows round r.none low high (t ∙ same))

waits_there : (roles : List Role) (i : ℕ) (level : OpenLevel) → level_of roles i ≡ level.begins → IsTold roles i level
    → level.waits ≡ true → is_definable (role_at roles i) ≡ true → role_at roles (i + 1) ≡ Equals → Defines roles i OperatorWord
waits_there roles i level same told waits d n =
    let r = said (λ (k : ℕ). new_waits (role_before roles k) (role_at roles k)) (level_of roles) level.begins false i level.waits (λ off. absurd (cc (off, waits))) told.waits in
    waits_from roles i level.begins same
    (subst (λ (v : Bool). SaysLast (λ k. new_waits (role_before roles k) (role_at roles k)) (level_of roles) level.begins i v) waits r) d n

waits_on : (roles : List Role) (i b : ℕ) (v : Bool)
    → IsLatest (λ k. new_waits (role_before roles k) (role_at roles k)) (level_of roles) b false i v
    → (k : ℕ) → k < i → level_of roles k ≡ b → new_waits (role_before roles k) (role_at roles k) ≡ Some true
    → ((m : ℕ) → k < m → m < i → level_of roles m ≡ b → role_at roles m ≢ Equals) → v ≡ true
waits_on roles i b true told k h s says none = refl
waits_on roles i b false (inl p) k h s says none = absurd (cc (p.1.none k h s, says))
waits_on roles i b false (inr r) k h s says none =
    elim (order r.at k) [
      | inl lt ↦ absurd (cc (r.none k lt h s, says))
      | inr more ↦ elim more [
        | inl e ↦
            let is : new_waits (role_before roles k) (role_at roles k) ≡ Some false = ap (λ (k : ℕ). new_waits (role_before roles k) (role_at roles k)) (sym e) ∙ r.says in
            absurd (cc (is, says))
        | inr lt ↦
            absurd (none r.at lt r.before r.same (equals_is (role_at roles r.at)
            (waits_ends (is_equals (role_at roles r.at)) (is_op (role_before roles r.at) && is_round (role_at roles r.at)) r.says)))
      ]
    ]

waits_flag : (roles : List Role) (i : ℕ) (level : OpenLevel) → level_of roles i ≡ level.begins → IsTold roles i level
    → is_definable (role_at roles i) ≡ true
    → (k : ℕ) → k < i → role_at roles k ≡ Op → role_at roles (k + 1) ≡ Round → SameLevel roles k i
    → ((m : ℕ) → k < m → m < i → SameLevel roles m i → role_at roles m ≢ Equals) → level.waits ≡ true
waits_flag roles i level same told d k h op round s none =
    elim (next_or_behind k i h) [
      | inl e ↦ let is : is_definable (role_at roles i) ≡ false = ap is_definable (ap (role_at roles) e ∙ round) in absurd (cc (is, d))
      | inr far ↦
          let says : new_waits (role_before roles (k + 1)) (role_at roles (k + 1)) ≡ Some true =
          ap (λ (p : Role). new_waits p (role_at roles (k + 1))) (before_is roles (k + 1) k refl ∙ op) ∙ ap (new_waits Op) round in
          waits_on roles i level.begins level.waits told.waits (k + 1) far (level_next roles k op round ∙ s ∙ same) says
          (λ m low high t. none m (omega arith) high (t ∙ sym same))
    ]

operator_there : (roles : List Role) (i : ℕ) (level : OpenLevel) → level_of roles i ≡ level.begins → IsTold roles i level
    → as_operator (role_before roles i) (role_at roles i) (role_at roles (i + 1)) level ≡ true → Defines roles i OperatorWord
operator_there roles i level same told e =
    let previous = role_before roles i in
    let next = role_at roles (i + 1) in
    let behind = is_comma previous && is_operator_word level.last in
    let p = both (is_definable (role_at roles i)) (is_operator_definer previous || (is_equals next && (level.waits || behind))) e in
    elim (either (is_operator_definer previous) (is_equals next && (level.waits || behind)) p.1) [
      | inl m ↦ elim (operator_definer_is previous m) [
        | inl is ↦ let s = stands_before roles i Prio (λ c. absurd (cc (c))) is in behind_prio s.0 p.0 s.1 s.2
        | inr is ↦ let s = stands_before roles i Op (λ c. absurd (cc (c))) is in behind_op s.0 p.0 s.1 s.2
      ]
      | inr m ↦
          let q = both (is_equals next) (level.waits || behind) m in
          elim (either level.waits behind q.1) [
            | inl w ↦ waits_there roles i level same told w p.0 (equals_is next q.0)
            | inr w ↦
                let r = both (is_comma previous) (is_operator_word level.last) w in
                let s = stands_before roles i Comma (λ c. absurd (cc (c))) (comma_is previous r.0) in
                definer_there roles i level OperatorWord same told (operator_word_is level.last r.1) s.0 p.0 s.1 s.2 (equals_is next q.0)
          ]
    ]

operator_flag : (roles : List Role) (i : ℕ) (level : OpenLevel) → level_of roles i ≡ level.begins → IsTold roles i level
    → Defines roles i OperatorWord → as_operator (role_before roles i) (role_at roles i) (role_at roles (i + 1)) level ≡ true
operator_flag roles i level same told (behind_prio k d e m) =
    and_true (is_definable (role_at roles i)) _ d (or_left (is_operator_definer (role_before roles i)) _ (ap is_operator_definer (before_is roles i k e ∙ m)))
operator_flag roles i level same told (behind_op k d e m) =
    and_true (is_definable (role_at roles i)) _ d (or_left (is_operator_definer (role_before roles i)) _ (ap is_operator_definer (before_is roles i k e ∙ m)))
operator_flag roles i level same told (before_equals k d n h op round s none) =
    and_true (is_definable (role_at roles i)) _ d (or_right (is_operator_definer (role_before roles i)) _
    (and_true (is_equals (role_at roles (i + 1))) _ (ap is_equals n) (or_left level.waits _ (waits_flag roles i level same told d k h op round s none))))
operator_flag roles i level same told (joined j k d e c n h def s none) =
    and_true (is_definable (role_at roles i)) _ d (or_right (is_operator_definer (role_before roles i)) _
    (and_true (is_equals (role_at roles (i + 1))) _ (ap is_equals n) (or_right level.waits _
    (and_true (is_comma (role_before roles i)) _ (ap is_comma (before_is roles i j e ∙ c))
    (ap is_operator_word (definer_counts roles i level OperatorWord same told k h def s none))))))

-- the second flag
pub operator_defined : (roles : List Role) (i : ℕ) (level : OpenLevel) → level_of roles i ≡ level.begins → IsTold roles i level
    → (as_operator (role_before roles i) (role_at roles i) (role_at roles (i + 1)) level ≡ true) ↔ Defines roles i OperatorWord
operator_defined roles i level same told = (operator_there roles i level same told, operator_flag roles i level same told)
