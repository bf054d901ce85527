-- What a command line of `live` may write, and what it reads, also where it is no command.
use Rattle.std.specs.Prelude.{◌≡◌, ℕ, List, [], Result, Ok, Err}
use Rattle.batch_steps.specs.Files.{Content, Named}
use Rattle.batch_steps.specs.declared.reply.Reply.{Reply}
use Rattle.cli_words.specs.declared.command.WordsRefusal.{WordsRefusal}
use Rattle.command_course.specs.Still.{words_reply}
use Rattle.live_opening.specs.Files.{live_count, live_files}
use Rattle.live_words.specs.Lines.{live_of}
use Rattle.live_words.specs.declared.command.LiveCommand.{LiveCommand}
use Rattle.command_live.specs.Replies.{IsOfLive, MayGive, slots_with}

-- a reply: words that are no command are refused before all else
abbrev pub MayReplyBy : List (List ℕ) → Result LiveCommand WordsRefusal → Content → Reply → Type 0
MayReplyBy words (Err w) c reply = reply ≡ words_reply w
MayReplyBy words (Ok command) c reply = MayGive words command c reply

unfoldable pub MayReply : List (List ℕ) → Content → Reply → Type 0
MayReply words c reply = MayReplyBy words (live_of words) c reply

-- the files that are read, in order, each with how far it is read
abbrev pub files_by : List (List ℕ) → Result LiveCommand WordsRefusal → Content → List Named
files_by words (Err w) c = []
files_by words (Ok command) c = live_files words command c

unfoldable pub live_read : List (List ℕ) → Content → List Named
live_read words c = files_by words (live_of words) c

-- how many the words name
abbrev pub count_by : Result LiveCommand WordsRefusal → ℕ
count_by (Err w) = 0
count_by (Ok command) = live_count command

unfoldable pub live_named : List (List ℕ) → ℕ
live_named words = count_by (live_of words)

-- how many of them were opened where it ended with a status that words and files decide
abbrev pub slots_by : Result LiveCommand WordsRefusal → ℕ → ℕ
slots_by (Err w) status = 0
slots_by (Ok command) status = slots_with command status

unfoldable pub live_opened_with : List (List ℕ) → ℕ → ℕ
live_opened_with words status = slots_by (live_of words) status

-- those statuses: 2 where a word is wrong
abbrev pub IsLiveDecidedBy : Result LiveCommand WordsRefusal → ℕ → Type 0
IsLiveDecidedBy (Err w) status = status ≡ 2
IsLiveDecidedBy (Ok command) status = IsOfLive status

unfoldable pub IsLiveDecided : List (List ℕ) → ℕ → Type 0
IsLiveDecided words status = IsLiveDecidedBy (live_of words) status
