-- The lines and the frames fix the history (this project's own). Public functions of `laws` prove each law.
use Rattle.std.specs.Prelude.{◌≡◌, ℕ, List, ◌∷◌, ◌⊎◌, Option}
use Rattle.gate_model.specs.declared.entry.Entry.{Entry}
use Rattle.gate_model.specs.session.History.{History}
use Rattle.script_grammar.specs.declared.text_form.TextForm.{TextForm}
use Rattle.script_grammar.specs.declared.text_form.TextForm.TheVariants.{Script}
use Rattle.script_grammar.specs.declared.order.Order.{Order}
use Rattle.gate_script.specs.declared.refused.Refused.{Refused}
use Rattle.gate_script.specs.Outcomes.{CutInNewest, CutShort, Finished, Halted, Interrupted, LastCutShort, Loaded, Refuses}
use Rattle.gate_script.specs.Plays.{Play, Plays}

-- ---- given orders

-- orders that tell the same frames are played in one way: to one moment and one history, with the same answers
-- and the same bytes taken
abbrev pub FramesFixThePlay : Type 0
FramesFixThePlay = (orders : List Order) (p q : Play) (a b f bytes others : List ℕ) → Plays orders p a f bytes → Plays orders q b f others → (p ≡ q) × (a ≡ b) × (bytes ≡ others)

-- where what the newest order told is cut short, this holds of the orders before it; and of the newest too, once
-- one of both plays has told its frames whole
abbrev pub FramesFixAllButTheNewest : Type 0
FramesFixAllButTheNewest = (order : Order) (orders : List Order) (p q : Play) (a b f : List ℕ)
    → (one : CutInNewest order orders p a f) → (other : CutInNewest order orders q b f)
    → (one.before ≡ other.before) × (one.before_a ≡ other.before_a) × (one.own_f ≡ one.framing → p ≡ q)

-- ---- runs

-- two runs of all orders that read the same bytes and wrote the same frames are one play, and have the same answers
abbrev pub FinishedIsOnePlay : Type 0
FinishedIsOnePlay = (form : TextForm) (bytes a b f : List ℕ) (one : Finished form bytes a f) (other : Finished form bytes b f) → (one.play ≡ other.play) × (a ≡ b)

-- so are two that a fault of the source ended
abbrev pub InterruptedIsOnePlay : Type 0
InterruptedIsOnePlay = (form : TextForm) (bytes a b f : List ℕ) (one : Interrupted form bytes a f) (other : Interrupted form bytes b f) → (one.play ≡ other.play) × (a ≡ b)

-- so are two that a refused order ended: it is the same order, refused for the same
abbrev pub RefusesIsOnePlay : Type 0
RefusesIsOnePlay = (form : TextForm) (bytes a b f : List ℕ) (left : Option (List ℕ)) (refused again : Refused) (one : Refuses form bytes a f left refused) (other : Refuses form bytes b f left again)
    → (one.play ≡ other.play) × (a ≡ b) × (refused ≡ again) × (one.lines ≡ other.lines)

-- so are two runs of a script that want of memory ended, where they wrote the same answers too
abbrev pub HaltedIsOnePlay : Type 0
HaltedIsOnePlay = (entries : ℕ) (bytes a f : List ℕ) (left : Option (List ℕ)) (one other : Halted (Script entries) bytes a f left) → one.play ≡ other.play

-- two whole loads of the same words that wrote the same frames are one play, and have the same answers
abbrev pub LoadedIsOnePlay : Type 0
LoadedIsOnePlay = (seed rounds : ℕ) (a b f : List ℕ) (one : Loaded seed rounds a f) (other : Loaded seed rounds b f) → (one.play ≡ other.play) × (a ≡ b)

-- ---- runs that a fault of a sink ended

-- one entry more, or none
abbrev pub HasOneMore : History → History → Type 0
HasOneMore g h = (h ≡ g) ⊎ ((e : Entry) × (h ≡ e ∷ g))

-- the same entries, but for the newest of each
abbrev pub AgreeButForTheNewest : History → History → Type 0
AgreeButForTheNewest h k = (g : History) × HasOneMore g h × HasOneMore g k

-- in this play a fault of a sink came: its newest order was cut short, or the last answer behind all its orders
abbrev pub EndsByFault : TextForm → List ℕ → List ℕ → List ℕ → Option (List ℕ) → Play → Type 0
EndsByFault form bytes a f left p = ((cut : CutShort form bytes a f left) × (cut.play ≡ p)) ⊎ ((last : LastCutShort form bytes a f left) × (last.refuses.play ≡ p))

-- the histories of two runs of a script that wrote the same answers and frames agree but for the newest entry
abbrev pub WriteFaultFixesAllButTheNewest : Type 0
WriteFaultFixesAllButTheNewest = (entries : ℕ) (bytes a f : List ℕ) (left : Option (List ℕ)) (p q : Play)
    → EndsByFault (Script entries) bytes a f left p → EndsByFault (Script entries) bytes a f left q → AgreeButForTheNewest p.history q.history
