-- Texts that are written one after another.
use Rattle.std.specs.Prelude.{◌≡◌, ℕ, List, [], ◌++◌, take, Option, Some, None, Result, Ok, Err}
use Rattle.std.specs.Prelude.{IfSome}
use Rattle.std.specs.Option.{option_map}
use Rattle.std.proofs.Common.{subst, sym, append_assoc}
use Rattle.bolt_io.specs.Told.{Told}
use Rattle.bolt_io.specs.Written.{Wrote, WrotePart}
use Rattle.bolt_io.proofs.WrittenLemmas.{Wrote-then, Wrote-none, WrotePart-then, WrotePart-more}
use Rattle.bolt_io.proofs.WrittenLemmas.{WrotePart-none}
use Rattle.batch_steps.specs.declared.reply.Reply.{Reply}
use Rattle.batch_steps.specs.Steps.{prepend}
use Rattle.command_files.specs.declared.stop.Stop.{Stop}
use Rattle.batch_steps.specs.Files.{Content}
use Rattle.command_files.specs.Files.{content}
use Rattle.command_files.specs.Replied.{Gives, Replied, Appended, Leads}

pub Appended-none : (a : Option (List ℕ)) → Appended a a
Appended-none a = ([], Wrote-none a)

pub Appended-part : (a b : Option (List ℕ)) (text : List ℕ) → WrotePart a b text → Appended a b
Appended-part a b text part = (take part.0 text, part.2)

pub Appended-then : (a b c : Option (List ℕ)) → Appended a b → Appended b c → Appended a c
Appended-then a b c first later =
    (first.0 ++ later.0, Wrote-then a b c first.0 later.0 first.1 later.1)

pub Leads-then : (a b c : Option (List ℕ)) (text : List ℕ) → Wrote a b text → Appended b c
    → Leads text a c
Leads-then a b c text first later = (later.0, Wrote-then a b c text later.0 first later.1)

-- a text, and then another and some more
pub Leads-behind : (a b c : Option (List ℕ)) (text more : List ℕ) → Wrote a b text → Leads more b c
    → Leads (text ++ more) a c
Leads-behind a b c text more first later = (
  later.0,
  subst (Wrote a c) (sym (append_assoc text more later.0))
      (Wrote-then a b c text (more ++ later.0) first later.1),
)

-- a text, and then a reply as far as it was given
Gives-behind : (a b c : Option (List ℕ)) (text : List ℕ) (x : Reply) (r : Result ℕ Stop)
    → Wrote a b text → Gives x b c r → Gives (prepend text x) a c r
Gives-behind a b c text x (Ok s) first h =
    record {
      part = WrotePart-then a b c text x.text first h.part;
      whole = Wrote-then a b c text
          x.text first h.whole;
      status = h.status;
    }
Gives-behind a b c text x (Err e) first h =
    record { part = WrotePart-then a b c text x.text first h.part; whole = tt; status = tt }

pub Replied-behind : (told later : Option Told) (a b c : Option (List ℕ)) (text : List ℕ)
    (x : Content → Reply) (r : Result ℕ Stop) → later ≡ told → Wrote a b text
    → Replied x later b c r → Replied (λ c. prepend text (x c)) told a c r
Replied-behind None later a b c text x r same first h = tt
Replied-behind (Some t) later a b c text x r same first h =
    Gives-behind a b c text (x (content t)) r first
    (subst (λ (o : Option Told). Replied x o b c r) same h)

-- only a part of the text
pub Replied-early : (told : Option Told) (a b : Option (List ℕ)) (text : List ℕ)
    (x : Content → Reply) (e : Stop) → WrotePart a b text
    → Replied (λ c. prepend text (x c)) told a b (Err e)
Replied-early None a b text x e part = tt
Replied-early (Some t) a b text x e part =
    record { part = WrotePart-more a b text (x (content t)).text part; whole = tt; status = tt }

-- nothing was written
pub Replied-unwritten : (told : Option Told) (a b : Option (List ℕ)) (x : Content → Reply)
    (e : Stop) → b ≡ a → Replied x told a b (Err e)
Replied-unwritten None a b x e same = tt
Replied-unwritten (Some t) a b x e same =
    record {
      part = subst (λ (o : Option (List ℕ)). WrotePart a o (x (content t)).text) (sym same)
          (WrotePart-none a (x (content t)).text);
      whole = tt;
      status = tt;
    }

-- a reply that is known
pub Replied-known : (told : Option Told) (a b : Option (List ℕ)) (x : Content → Reply) (y : Reply)
    (r : Result ℕ Stop) → IfSome told (λ t. x (content t) ≡ y) → Gives y a b r
    → Replied x told a b r
Replied-known None a b x y r is h = tt
Replied-known (Some t) a b x y r is h = subst (λ (z : Reply). Gives z a b r) (sym is) h

-- a reply of a later moment, at which the same files are told
pub Replied-later : (told later : Option Told) (a b : Option (List ℕ)) (x y : Content → Reply)
    (r : Result ℕ Stop) (step : Told → Told) → ((t : Told) → content (step t) ≡ content t)
    → later ≡ option_map step told → IfSome told (λ t. y (content t) ≡ x (content t))
    → Replied x later a b r → Replied y told a b r
Replied-later None later a b x y r step keeps is same h = tt
Replied-later (Some t) later a b x y r step keeps is same h =
    let here : Gives (x (content (step t))) a b r =
    subst (λ (o : Option Told). Replied x o a b r) is h in
    let there : Gives (x (content t)) a b r =
    subst (λ (c : Content). Gives (x c) a b r) (keeps t) here in
    subst (λ (z : Reply). Gives z a b r) (sym same) there
