-- Which form of a process a token begins.
use Rattle.std.specs.Prelude.{Bool, if◌then◌else◌}
use Rattle.spi_lex.specs.declared.token.Kind.{Kind}
use Rattle.spi_lex.specs.declared.token.Kind.TheVariants as K
use Rattle.spi_lex.specs.declared.token.Reserved.{Reserved}
use Rattle.spi_lex.specs.declared.token.Reserved.TheVariants as word
use Rattle.spi_lex.specs.declared.token.Mark.{Mark}
use Rattle.spi_lex.specs.declared.token.Mark.TheVariants as mark
use Rattle.spi_parse.specs.declared.forms.Form.{Form}
use Rattle.spi_parse.specs.declared.forms.Form.TheVariants as forms
use Rattle.spi_parse.specs.declared.forms.Talk.TheVariants as talks
use Rattle.spi_parse.specs.declared.forms.Open.TheVariants as opens
use Rattle.spi_parse.specs.declared.forms.Event.TheVariants as events
use Rattle.spi_parse.specs.declared.forms.Plain.TheVariants as plains

abbrev pub form_of_word : Bool → Reserved → Form
form_of_word later word.Out = forms.Talk talks.Out
form_of_word later word.Inp = forms.Talk talks.Inp
form_of_word later word.Repeat = forms.Talk talks.Repeat
form_of_word later word.Split = forms.Open opens.Split
form_of_word later word.Match = forms.Open opens.Match
form_of_word later word.Case = forms.Open opens.Case
form_of_word later word.Decrypt = forms.Open opens.Decrypt
form_of_word later word.Check = forms.Event events.Check
form_of_word later word.Begin = forms.Event events.Begin
form_of_word later word.End = forms.Event events.End
form_of_word later word.EndMany = if later then (forms.Event events.EndMany) else forms.NoForm
form_of_word later word.Cast = forms.Plain plains.Cast
form_of_word later word.New = forms.Plain plains.New
form_of_word later word.Stop = forms.Plain plains.Stop
form_of_word later _ = forms.NoForm

abbrev pub form_of_mark : Mark → Form
form_of_mark mark.ParenOpen = forms.Plain plains.Group
form_of_mark _ = forms.NoForm

abbrev pub form_of : Bool → Kind → Form
form_of later (K.Word w) = forms.NoForm
form_of later (K.Reserved w) = form_of_word later w
form_of later (K.Number n) = forms.NoForm
form_of later (K.Mark m) = form_of_mark m
