mod Steps
mod Read
