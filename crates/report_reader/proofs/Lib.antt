mod AnswerLaws
mod FieldLaws
mod NextLaws
mod ReadLaws
mod StepLaws
mod StateLaws
mod PartLaws
mod HeadLaws
